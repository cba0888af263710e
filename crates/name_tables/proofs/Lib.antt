pub mod TableLaws
pub mod Places
pub mod Stands
