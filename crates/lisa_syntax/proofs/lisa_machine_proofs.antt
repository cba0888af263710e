pub use Rattle.lisa_forms.proofs.lisa_machine_proofs.Fitting
pub use Rattle.lisa_forms.proofs.lisa_machine_proofs.Sound
pub use Rattle.lisa_forms.proofs.lisa_machine_proofs.Standing
pub use Rattle.lisa_forms.proofs.lisa_machine_proofs.Steps
pub use Rattle.lisa_forms.proofs.lisa_machine_proofs.Unique
pub use Rattle.lisa_forms.proofs.lisa_machine_proofs.Verdicts
