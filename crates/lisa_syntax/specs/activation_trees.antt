pub use Rattle.lisa_forms.specs.activation_trees.Twice
pub use Rattle.lisa_forms.specs.activation_trees.Unfolding
