pub mod Symbolic
pub mod Assembled
pub mod Carried
