pub use Rattle.instruction_forms.proofs.coding_tables_proofs.Heights
pub use Rattle.instruction_forms.proofs.coding_tables_proofs.Levels
pub use Rattle.instruction_forms.proofs.coding_tables_proofs.Owning
