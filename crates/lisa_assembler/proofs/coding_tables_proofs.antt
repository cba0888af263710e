pub use Rattle.instruction_forms.proofs.coding_tables_proofs.Levels
