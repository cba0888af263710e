pub use Rattle.form_patterns.proofs.instruction_forms_proofs.Whole
pub use Rattle.form_patterns.proofs.instruction_forms_proofs.Wide
