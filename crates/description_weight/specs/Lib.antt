pub mod Unfolded
pub mod Weights
pub mod Sums
pub mod coding_tables
pub mod description_sizes
pub mod instruction_forms
pub mod lisa_forms
