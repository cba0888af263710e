pub use Rattle.lisa_meaning.proofs.Added
pub use Rattle.lisa_meaning.proofs.Back
pub use Rattle.lisa_meaning.proofs.Nodes
pub use Rattle.lisa_meaning.proofs.Roots
pub use Rattle.lisa_meaning.proofs.Shaped
pub use Rattle.lisa_meaning.proofs.Shown
pub use Rattle.lisa_meaning.proofs.Sounds
pub use Rattle.lisa_meaning.proofs.Stored
