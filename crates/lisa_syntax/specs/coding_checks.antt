pub use Rattle.lisa_forms.specs.coding_checks.Steady
pub use Rattle.lisa_forms.specs.coding_checks.Uneven
pub use Rattle.lisa_forms.specs.coding_checks.Widths
pub use Rattle.lisa_forms.specs.coding_checks.Written
