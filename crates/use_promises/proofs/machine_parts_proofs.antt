pub use Rattle.lisa_machine.proofs.machine_parts_proofs.Fitting
pub use Rattle.lisa_machine.proofs.machine_parts_proofs.Lengths
