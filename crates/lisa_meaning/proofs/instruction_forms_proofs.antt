pub use Rattle.lisa_forms.proofs.instruction_forms_proofs.Whole
