pub mod EqualKeys
pub mod Finds
pub mod Owned
pub mod Steps
pub mod Wordy
pub mod Assembly
pub mod Sharing
pub mod Promises
