pub use Rattle.lisa_machine.proofs.Entries
pub use Rattle.lisa_machine.proofs.Falling
pub use Rattle.lisa_machine.proofs.Named
