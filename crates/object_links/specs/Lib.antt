pub mod Firsts
pub mod LinkFaults
pub mod LineNames
pub mod LineSizes
