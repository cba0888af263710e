pub mod Pieces
pub mod Spelled
pub mod Narrowed
pub mod Accepted
pub mod Lengths
pub mod Bounds
pub mod Whole
