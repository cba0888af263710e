pub use Rattle.lisa_meaning.specs.coding_tables.Instructions
