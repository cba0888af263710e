pub mod Again
pub mod Fronts
pub mod Arms
pub mod Loose
