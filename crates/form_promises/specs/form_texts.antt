pub use Rattle.form_texts.specs.Instructions
pub use Rattle.form_texts.specs.Syntaxes
pub use Rattle.form_texts.specs.declared
