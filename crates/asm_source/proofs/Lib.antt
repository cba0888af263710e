pub mod Numerals
pub mod Loops
pub mod Stops
pub mod Values
pub mod LineLoop
