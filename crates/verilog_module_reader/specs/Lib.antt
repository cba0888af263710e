pub mod Parts
pub mod Members
pub mod Modules
pub mod Gives
pub mod Answers
