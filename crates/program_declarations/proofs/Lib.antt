pub mod Apart
pub mod Naming
pub mod Shown
pub mod Depths
pub mod Declared
