pub mod Replying
pub mod Texts
pub mod checked_descriptions_proofs
