pub use Rattle.lisa_syntax.proofs.lisa_machine_proofs.Fitting
pub use Rattle.lisa_syntax.proofs.lisa_machine_proofs.Sound
pub use Rattle.lisa_syntax.proofs.lisa_machine_proofs.Standing
