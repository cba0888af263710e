pub mod Memories
pub mod Tables
pub mod LineValues
pub mod Parts
