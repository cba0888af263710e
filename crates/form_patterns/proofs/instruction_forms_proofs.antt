pub use Rattle.instruction_forms.proofs.Whole
pub use Rattle.instruction_forms.proofs.Wide
