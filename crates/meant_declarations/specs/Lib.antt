pub mod Meant
pub mod Meanings
pub mod Sources
pub mod Declaring
pub mod Lacking
pub mod Walks
