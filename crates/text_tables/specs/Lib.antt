pub mod Shared
pub mod Parts
pub mod Reading
pub mod Beginnings
pub mod Openings
pub mod Alike
pub mod Misfits
pub mod Relations
