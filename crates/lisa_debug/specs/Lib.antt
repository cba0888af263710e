pub mod Kept
pub mod Commands
pub mod Answers
pub mod Sessions
pub mod Taking
pub mod Ends
pub mod Runs
