pub mod Lines
pub mod Mapped
pub mod Spelled
pub mod Counted
