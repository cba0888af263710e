pub use Rattle.lowered_behaviors.proofs.Choosing
pub use Rattle.lowered_behaviors.proofs.Once
pub use Rattle.lowered_behaviors.proofs.Sources
