pub mod PartLaws
pub mod MemberLaws
pub mod ModuleLaws
