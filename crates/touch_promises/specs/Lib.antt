pub mod Writes
pub mod lisa_meaning
pub mod use_promises
