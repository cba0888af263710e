pub use Rattle.lisa_meaning.proofs.lisa_forms_proofs.Overlapping
pub use Rattle.lisa_meaning.proofs.lisa_forms_proofs.Patterned
