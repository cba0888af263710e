pub mod Limits
pub mod lisa_machine_proofs
pub mod lisa_meaning_proofs
