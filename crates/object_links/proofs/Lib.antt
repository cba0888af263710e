pub mod Steps
pub mod ByLines
pub mod Exports
pub mod NamesUsed
pub mod Capped
