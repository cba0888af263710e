pub use Rattle.spelled_promises.proofs.Found
pub use Rattle.spelled_promises.proofs.Outer
