pub mod Widths
pub mod Steady
pub mod Uneven
pub mod Written
