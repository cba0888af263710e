pub mod Compiled
pub mod Named
pub mod Names
pub mod Scopes
pub mod Writes
