pub mod Bytes
pub mod Numbers
pub mod Plain
pub mod Sums
pub mod Items
pub mod Parts
pub mod Source
pub mod Gives
