pub use Rattle.lisa_meaning.proofs.lisa_machine_proofs.Decoding
pub use Rattle.lisa_meaning.proofs.lisa_machine_proofs.Resolved
pub use Rattle.lisa_meaning.proofs.lisa_machine_proofs.Sound
