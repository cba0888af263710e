pub mod Direct
pub mod Walks
pub mod OuterNodes
pub mod Noted
pub mod Sourced
pub mod Leading
pub mod Differ
pub mod Lacked
