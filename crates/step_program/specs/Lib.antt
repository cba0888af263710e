pub mod Programs
pub mod Effects
pub mod WellFormed
pub mod Decided
pub mod Depths
