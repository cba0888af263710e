pub mod Powers
pub mod Deciding
pub mod Fits
pub mod Sample
