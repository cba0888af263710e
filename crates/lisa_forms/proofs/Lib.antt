pub mod Walking
mod Counts
mod Parts
mod Chosen
mod Kept
mod Formed
mod Rootless
pub mod Listed
pub mod Patterned
pub mod Decoded
pub mod Adding
pub mod Fielded
pub mod Known
pub mod Encoded
pub mod Overlapping
pub mod activation_trees_proofs
pub mod description_sizes_proofs
pub mod form_patterns_proofs
pub mod form_promises_proofs
pub mod instruction_forms_proofs
pub mod lisa_machine_proofs
pub mod pattern_tables_proofs
pub mod spelled_promises_proofs
pub mod typed_values_proofs
