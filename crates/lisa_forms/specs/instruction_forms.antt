pub use Rattle.form_patterns.specs.instruction_forms.Described
pub use Rattle.form_patterns.specs.instruction_forms.Trees
pub use Rattle.form_patterns.specs.instruction_forms.Widths
pub use Rattle.form_patterns.specs.instruction_forms.declared
