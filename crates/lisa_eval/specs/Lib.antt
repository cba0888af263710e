pub mod Resolving
pub mod Assigning
pub mod Holding
pub mod Laws
