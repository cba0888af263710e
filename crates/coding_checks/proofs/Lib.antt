pub mod Differing
pub mod Counted
pub mod Tabled
