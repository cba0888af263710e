pub mod HasBits
pub mod InRows
