pub mod Columns
pub mod Queued
pub mod Shown
pub mod Restored
