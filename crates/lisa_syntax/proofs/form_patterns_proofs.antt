pub use Rattle.lisa_forms.proofs.form_patterns_proofs.Filling
pub use Rattle.lisa_forms.proofs.form_patterns_proofs.Rowed
