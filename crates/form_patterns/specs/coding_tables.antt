pub use Rattle.instruction_forms.specs.coding_tables.Codings
pub use Rattle.instruction_forms.specs.coding_tables.Instructions
