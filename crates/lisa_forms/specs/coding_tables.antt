pub use Rattle.form_patterns.specs.coding_tables.Codings
pub use Rattle.form_patterns.specs.coding_tables.Instructions
