pub use Rattle.lisa_syntax.proofs.form_promises_proofs.Rooted
pub use Rattle.lisa_syntax.proofs.form_promises_proofs.Wide
