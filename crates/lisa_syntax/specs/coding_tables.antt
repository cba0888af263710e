pub use Rattle.lisa_forms.specs.coding_tables.Codings
pub use Rattle.lisa_forms.specs.coding_tables.Instructions
