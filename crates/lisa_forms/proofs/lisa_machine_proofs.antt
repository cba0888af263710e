pub use Rattle.form_promises.proofs.lisa_machine_proofs.Falling
pub use Rattle.form_promises.proofs.lisa_machine_proofs.Fitting
pub use Rattle.form_promises.proofs.lisa_machine_proofs.Sound
pub use Rattle.form_promises.proofs.lisa_machine_proofs.Standing
pub use Rattle.form_promises.proofs.lisa_machine_proofs.Steps
pub use Rattle.form_promises.proofs.lisa_machine_proofs.Unique
pub use Rattle.form_promises.proofs.lisa_machine_proofs.Verdicts
