pub mod Firsts
pub mod Locals
pub mod Turns
pub mod Lists
pub mod Choices
pub mod Depths
pub mod Sound
