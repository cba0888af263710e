pub use Rattle.use_promises.proofs.Shown
