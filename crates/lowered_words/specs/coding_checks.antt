pub use Rattle.instruction_forms.specs.coding_checks.Uneven
pub use Rattle.instruction_forms.specs.coding_checks.Widths
