pub mod Worth
pub mod Noting
pub mod Lists
pub mod Rounding
