pub mod Rested
pub mod Laid
