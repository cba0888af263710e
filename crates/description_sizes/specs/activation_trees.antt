pub use Rattle.activation_trees.specs.Activators
pub use Rattle.activation_trees.specs.Items
pub use Rattle.activation_trees.specs.Places
pub use Rattle.activation_trees.specs.Starting
pub use Rattle.activation_trees.specs.Twice
pub use Rattle.activation_trees.specs.Unfolding
pub use Rattle.activation_trees.specs.declared
