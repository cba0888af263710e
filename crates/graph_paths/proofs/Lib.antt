pub mod Seen
pub mod Search
pub mod Long
pub mod Edges
pub mod Listed
pub mod Rising
pub mod Rows
