pub use Rattle.lisa_forms.proofs.description_sizes_proofs.Chosen
pub use Rattle.lisa_forms.proofs.description_sizes_proofs.Rising
pub use Rattle.lisa_forms.proofs.description_sizes_proofs.Sums
