pub use Rattle.lisa_meaning.proofs.activation_trees_proofs.Lying
