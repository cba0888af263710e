pub use Rattle.lisa_forms.proofs.description_sizes_proofs.Limited
