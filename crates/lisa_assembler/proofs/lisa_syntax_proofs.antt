pub use Rattle.lisa_syntax.proofs.Shown
