pub mod Controls
pub mod Resets
pub mod Closing
pub mod Spreading
pub mod Running
pub mod Graphs
pub mod Backward
