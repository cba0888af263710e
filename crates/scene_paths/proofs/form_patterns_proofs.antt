pub use Rattle.lisa_meaning.proofs.form_patterns_proofs.Filling
pub use Rattle.lisa_meaning.proofs.form_patterns_proofs.Standing
pub use Rattle.lisa_meaning.proofs.form_patterns_proofs.Views
