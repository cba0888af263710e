pub mod Views
pub mod Registers
pub mod Rooms
pub mod Running
pub mod moment_stores
pub mod scene_paths
