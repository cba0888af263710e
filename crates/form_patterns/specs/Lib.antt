pub mod Instructions
pub mod Frames
pub mod Rows
pub mod Filled
pub mod coding_checks
pub mod coding_tables
pub mod instruction_forms
