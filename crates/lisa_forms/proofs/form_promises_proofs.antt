pub use Rattle.form_promises.proofs.Placed
pub use Rattle.form_promises.proofs.Readable
pub use Rattle.form_promises.proofs.Rooted
pub use Rattle.form_promises.proofs.Wide
