pub use Rattle.lisa_meaning.specs.instruction_forms.Trees
