pub use Rattle.lisa_reader.proofs.ByteLaws
