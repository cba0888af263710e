pub use Rattle.lisa_forms.specs.instruction_forms.Described
pub use Rattle.lisa_forms.specs.instruction_forms.Trees
pub use Rattle.lisa_forms.specs.instruction_forms.Widths
pub use Rattle.lisa_forms.specs.instruction_forms.declared
