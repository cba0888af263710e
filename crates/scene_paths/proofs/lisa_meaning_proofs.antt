pub use Rattle.lisa_meaning.proofs.Above
pub use Rattle.lisa_meaning.proofs.Paths
pub use Rattle.lisa_meaning.proofs.Words
