pub mod Listed
pub mod Ranges
