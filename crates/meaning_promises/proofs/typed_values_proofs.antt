pub use Rattle.typed_values.proofs.Fitting
