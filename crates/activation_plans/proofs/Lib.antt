mod Followed
mod Sized
mod Chosen
pub mod form_promises_proofs
pub mod lisa_machine_proofs
pub mod lisa_meaning_proofs
pub mod use_promises_proofs
