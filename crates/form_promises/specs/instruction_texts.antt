pub use Rattle.form_texts.specs.instruction_texts.Symbols
