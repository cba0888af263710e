pub use Rattle.typed_values.proofs.Fitting
pub use Rattle.typed_values.proofs.Preserved
