pub mod Started
pub mod Lined
pub mod Below
