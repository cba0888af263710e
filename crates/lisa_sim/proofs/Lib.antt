pub mod Lasting
pub mod Puttings
pub mod Holds
pub mod Going
pub mod Restored
pub mod Begun
pub mod Keeping
pub mod Simulating
