pub use Rattle.activation_trees.proofs.Levels
pub use Rattle.activation_trees.proofs.Lying
pub use Rattle.activation_trees.proofs.Ordered
