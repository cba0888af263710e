pub use Rattle.lisa_machine.proofs.Entries
pub use Rattle.lisa_machine.proofs.Falling
pub use Rattle.lisa_machine.proofs.Fitting
pub use Rattle.lisa_machine.proofs.Sound
pub use Rattle.lisa_machine.proofs.Standing
pub use Rattle.lisa_machine.proofs.Steps
pub use Rattle.lisa_machine.proofs.Unique
pub use Rattle.lisa_machine.proofs.Verdicts
