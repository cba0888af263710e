pub use Rattle.pattern_tables.specs.Instructions
pub use Rattle.pattern_tables.specs.Tables
