pub mod Finding
pub mod Lined
pub mod Putting
pub mod Written
pub mod Reading
