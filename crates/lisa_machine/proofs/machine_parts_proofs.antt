pub use Rattle.machine_parts.proofs.Fitting
pub use Rattle.machine_parts.proofs.Lengths
