pub mod Wrapping
pub mod Widths
pub mod Slots
pub mod Terms
pub mod Registers
pub mod Assigned
pub mod Controls
