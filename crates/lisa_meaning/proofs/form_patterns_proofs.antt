pub use Rattle.lisa_forms.proofs.form_patterns_proofs.Filling
pub use Rattle.lisa_forms.proofs.form_patterns_proofs.Placing
pub use Rattle.lisa_forms.proofs.form_patterns_proofs.Rowed
pub use Rattle.lisa_forms.proofs.form_patterns_proofs.Standing
pub use Rattle.lisa_forms.proofs.form_patterns_proofs.Views
