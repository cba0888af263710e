pub mod Few
pub mod Walked
pub mod Called
pub mod Limited
pub mod lisa_meaning_proofs
pub mod use_promises_proofs
