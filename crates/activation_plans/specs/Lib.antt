pub mod Growing
pub mod activation_trees
pub mod description_sizes
pub mod lisa_forms
pub mod lisa_machine
pub mod lisa_meaning
