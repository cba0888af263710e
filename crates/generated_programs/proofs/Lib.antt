pub mod Growing
pub mod Marked
pub mod Drawn
pub mod Stepping
pub mod Widths
pub mod Programmed
