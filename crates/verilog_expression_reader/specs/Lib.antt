pub mod Past
pub mod Reading
pub mod Gives
pub mod Stops
pub mod Fronts
