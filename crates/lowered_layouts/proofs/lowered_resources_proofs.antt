pub use Rattle.lowered_resources.proofs.Forming
pub use Rattle.lowered_resources.proofs.Holding
pub use Rattle.lowered_resources.proofs.Reading
pub use Rattle.lowered_resources.proofs.Standing
