mod Apart
mod Titles
mod Listed
mod Named
mod Wide
pub mod description_sizes_proofs
pub mod lisa_machine_proofs
pub mod machine_parts_proofs
pub mod use_promises_proofs
