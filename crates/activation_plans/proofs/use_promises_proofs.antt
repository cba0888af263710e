pub use Rattle.lisa_meaning.proofs.use_promises_proofs.Shown
