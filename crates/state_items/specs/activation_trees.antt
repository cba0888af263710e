pub use Rattle.lisa_meaning.specs.activation_trees.Items
pub use Rattle.lisa_meaning.specs.activation_trees.Unfolding
pub use Rattle.lisa_meaning.specs.activation_trees.declared
