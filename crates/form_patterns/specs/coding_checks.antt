pub use Rattle.instruction_forms.specs.coding_checks.Steady
pub use Rattle.instruction_forms.specs.coding_checks.Uneven
pub use Rattle.instruction_forms.specs.coding_checks.Widths
pub use Rattle.instruction_forms.specs.coding_checks.Written
