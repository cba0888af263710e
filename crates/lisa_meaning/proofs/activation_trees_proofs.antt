pub use Rattle.lisa_forms.proofs.activation_trees_proofs.Lying
pub use Rattle.lisa_forms.proofs.activation_trees_proofs.Ordered
