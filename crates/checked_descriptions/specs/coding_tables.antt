pub use Rattle.lisa_syntax.specs.coding_tables.Instructions
