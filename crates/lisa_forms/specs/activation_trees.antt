pub use Rattle.description_sizes.specs.activation_trees.Activators
pub use Rattle.description_sizes.specs.activation_trees.Items
pub use Rattle.description_sizes.specs.activation_trees.Places
pub use Rattle.description_sizes.specs.activation_trees.Starting
pub use Rattle.description_sizes.specs.activation_trees.Twice
pub use Rattle.description_sizes.specs.activation_trees.Unfolding
pub use Rattle.description_sizes.specs.activation_trees.declared
