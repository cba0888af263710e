pub use Rattle.use_promises.proofs.Counted
pub use Rattle.use_promises.proofs.Given
pub use Rattle.use_promises.proofs.Placed
pub use Rattle.use_promises.proofs.References
pub use Rattle.use_promises.proofs.Shown
pub use Rattle.use_promises.proofs.Traits
pub use Rattle.use_promises.proofs.Used
