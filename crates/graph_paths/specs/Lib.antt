pub mod Paths
pub mod Going
pub mod Ranks
pub mod Below
