pub use Rattle.lisa_forms.proofs.Fielded
pub use Rattle.lisa_forms.proofs.Overlapping
pub use Rattle.lisa_forms.proofs.Patterned
