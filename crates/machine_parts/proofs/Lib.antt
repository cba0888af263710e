pub mod Steps
pub mod Pairs
pub mod Lengths
pub mod Fitting
