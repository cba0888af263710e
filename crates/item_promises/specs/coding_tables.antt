pub use Rattle.lisa_forms.specs.coding_tables.Instructions
