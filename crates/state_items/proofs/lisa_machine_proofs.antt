pub use Rattle.lisa_meaning.proofs.lisa_machine_proofs.Fitting
pub use Rattle.lisa_meaning.proofs.lisa_machine_proofs.Forward
pub use Rattle.lisa_meaning.proofs.lisa_machine_proofs.Sound
pub use Rattle.lisa_meaning.proofs.lisa_machine_proofs.Standing
