pub use Rattle.description_types.proofs.OneKnown
