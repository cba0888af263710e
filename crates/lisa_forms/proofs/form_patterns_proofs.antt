pub use Rattle.form_patterns.proofs.Filling
pub use Rattle.form_patterns.proofs.Placing
pub use Rattle.form_patterns.proofs.Rowed
pub use Rattle.form_patterns.proofs.Standing
pub use Rattle.form_patterns.proofs.Views
