pub use Rattle.pattern_tables.proofs.Masks
