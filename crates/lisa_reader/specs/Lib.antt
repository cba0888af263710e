pub mod Answers
pub mod Skipping
pub mod Reading
pub mod Gives
