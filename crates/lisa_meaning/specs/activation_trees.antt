pub use Rattle.lisa_forms.specs.activation_trees.Activators
pub use Rattle.lisa_forms.specs.activation_trees.Items
pub use Rattle.lisa_forms.specs.activation_trees.Places
pub use Rattle.lisa_forms.specs.activation_trees.Starting
pub use Rattle.lisa_forms.specs.activation_trees.Unfolding
pub use Rattle.lisa_forms.specs.activation_trees.declared
