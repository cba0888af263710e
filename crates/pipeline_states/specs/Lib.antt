pub mod Showing
pub mod Taken
pub mod Putting
pub mod Hardware
