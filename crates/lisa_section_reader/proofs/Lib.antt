pub mod ListLaws
pub mod EachLaws
pub mod ResourceLaws
pub mod DeclareLaws
pub mod CodingLaws
pub mod SyntaxLaws
