pub use Rattle.form_promises.proofs.spelled_promises_proofs.Found
pub use Rattle.form_promises.proofs.spelled_promises_proofs.Outer
