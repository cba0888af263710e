pub mod Modules
pub mod checked_descriptions
