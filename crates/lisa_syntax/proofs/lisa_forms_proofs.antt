pub use Rattle.lisa_forms.proofs.Decoded
pub use Rattle.lisa_forms.proofs.Walking
