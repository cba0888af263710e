pub use Rattle.form_promises.specs.form_texts.Instructions
pub use Rattle.form_promises.specs.form_texts.Syntaxes
pub use Rattle.form_promises.specs.form_texts.declared
