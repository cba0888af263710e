pub use Rattle.use_promises.proofs.lisa_machine_proofs.Among
pub use Rattle.use_promises.proofs.lisa_machine_proofs.Entries
pub use Rattle.use_promises.proofs.lisa_machine_proofs.Falling
pub use Rattle.use_promises.proofs.lisa_machine_proofs.Named
pub use Rattle.use_promises.proofs.lisa_machine_proofs.Sound
pub use Rattle.use_promises.proofs.lisa_machine_proofs.Standing
