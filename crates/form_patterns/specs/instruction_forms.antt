pub use Rattle.instruction_forms.specs.Described
pub use Rattle.instruction_forms.specs.Naming
pub use Rattle.instruction_forms.specs.Trees
pub use Rattle.instruction_forms.specs.Widths
pub use Rattle.instruction_forms.specs.declared
