pub use Rattle.lisa_meaning.proofs.Above
pub use Rattle.lisa_meaning.proofs.Nodes
pub use Rattle.lisa_meaning.proofs.Paths
