pub use Rattle.coding_tables.specs.coding_checks.Steady
pub use Rattle.coding_tables.specs.coding_checks.Uneven
pub use Rattle.coding_tables.specs.coding_checks.Widths
pub use Rattle.coding_tables.specs.coding_checks.Written
