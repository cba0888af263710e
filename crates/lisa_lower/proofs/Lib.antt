pub mod Correct
pub mod Weighing
