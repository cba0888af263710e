pub mod DescriptionMemories
pub mod Exports
pub mod Imports
pub mod Passed
pub mod Unread
