pub use Rattle.form_patterns.specs.coding_checks.Steady
pub use Rattle.form_patterns.specs.coding_checks.Uneven
pub use Rattle.form_patterns.specs.coding_checks.Widths
pub use Rattle.form_patterns.specs.coding_checks.Written
