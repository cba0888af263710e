pub mod Entries
pub mod Addresses
pub mod Symbols
pub mod Placed
