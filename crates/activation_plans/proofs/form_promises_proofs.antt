pub use Rattle.lisa_meaning.proofs.form_promises_proofs.Placed
