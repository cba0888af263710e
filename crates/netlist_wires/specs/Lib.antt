pub mod Wiring
pub mod Tables
pub mod Costs
