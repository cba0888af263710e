pub use Rattle.lowered_words.specs.coding_tables.Instructions
