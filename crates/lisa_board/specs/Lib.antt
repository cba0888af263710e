pub mod Boards
pub mod BoardLines
pub mod Feeding
pub mod Runs
pub mod Kept
