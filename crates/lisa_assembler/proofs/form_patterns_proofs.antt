pub use Rattle.form_patterns.proofs.Filling
pub use Rattle.form_patterns.proofs.Placing
