pub use Rattle.instruction_forms.specs.Described
pub use Rattle.instruction_forms.specs.Widths
