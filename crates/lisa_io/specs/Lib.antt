pub mod Causes
pub mod Contents
pub mod Memory
pub mod Gathered
