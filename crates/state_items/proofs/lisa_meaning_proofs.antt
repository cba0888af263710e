pub use Rattle.lisa_meaning.proofs.Back
pub use Rattle.lisa_meaning.proofs.Nodes
pub use Rattle.lisa_meaning.proofs.Sounds
pub use Rattle.lisa_meaning.proofs.Stored
