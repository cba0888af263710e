pub use Rattle.lisa_meaning.specs.form_patterns.Instructions
