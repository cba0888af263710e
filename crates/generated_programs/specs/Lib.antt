pub mod Memories
pub mod Draws
pub mod Programs
pub mod lisa_forms
pub mod lisa_syntax
