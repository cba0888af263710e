pub use Rattle.lisa_forms.proofs.form_promises_proofs.Rooted
pub use Rattle.lisa_forms.proofs.form_promises_proofs.Wide
