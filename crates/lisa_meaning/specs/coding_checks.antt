pub use Rattle.lisa_forms.specs.coding_checks.Uneven
pub use Rattle.lisa_forms.specs.coding_checks.Widths
