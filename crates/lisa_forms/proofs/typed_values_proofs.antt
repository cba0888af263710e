pub use Rattle.description_sizes.proofs.typed_values_proofs.Fitting
pub use Rattle.description_sizes.proofs.typed_values_proofs.Preserved
