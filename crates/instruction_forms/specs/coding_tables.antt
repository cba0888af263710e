pub use Rattle.coding_tables.specs.Codings
pub use Rattle.coding_tables.specs.Instructions
