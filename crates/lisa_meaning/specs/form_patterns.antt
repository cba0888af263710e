pub use Rattle.lisa_forms.specs.form_patterns.Instructions
