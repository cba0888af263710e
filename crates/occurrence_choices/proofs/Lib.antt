pub mod Bits
pub mod Rows
pub mod Chosen
pub mod Kept
pub mod Activating
pub mod Stepping
