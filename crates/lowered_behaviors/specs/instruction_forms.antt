pub use Rattle.lowered_words.specs.instruction_forms.Trees
pub use Rattle.lowered_words.specs.instruction_forms.Widths
