pub use Rattle.lisa_forms.proofs.form_promises_proofs.Placed
pub use Rattle.lisa_forms.proofs.form_promises_proofs.Wide
