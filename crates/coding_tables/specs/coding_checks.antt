pub use Rattle.coding_checks.specs.Steady
pub use Rattle.coding_checks.specs.Uneven
pub use Rattle.coding_checks.specs.Widths
pub use Rattle.coding_checks.specs.Written
