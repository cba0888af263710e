pub use Rattle.lisa_syntax.specs.activation_trees.Twice
pub use Rattle.lisa_syntax.specs.activation_trees.Unfolding
