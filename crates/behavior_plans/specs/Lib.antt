pub mod Terms
pub mod Spots
pub mod Acts
pub mod Holdings
pub mod Values
pub mod Effects
pub mod Stores
pub mod Laws
