pub mod Stopped
pub mod Wanted
mod Counting
mod Watching
