pub mod Gathered
pub mod Kept
pub mod Noting
pub mod Placed
