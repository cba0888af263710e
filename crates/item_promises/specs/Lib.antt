pub mod activation_trees
pub mod coding_tables
pub mod description_sizes
pub mod instruction_forms
pub mod lisa_forms
pub mod lisa_machine
pub mod machine_parts
pub mod use_promises
