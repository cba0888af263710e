pub use Rattle.lisa_meaning.proofs.use_promises_proofs.Given
pub use Rattle.lisa_meaning.proofs.use_promises_proofs.References
pub use Rattle.lisa_meaning.proofs.use_promises_proofs.Used
