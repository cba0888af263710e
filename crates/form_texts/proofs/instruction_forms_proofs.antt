pub use Rattle.instruction_forms.proofs.Wide
