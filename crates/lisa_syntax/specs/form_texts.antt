pub use Rattle.lisa_forms.specs.form_texts.Instructions
pub use Rattle.lisa_forms.specs.form_texts.Syntaxes
