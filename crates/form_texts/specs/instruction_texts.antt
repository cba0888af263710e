pub use Rattle.instruction_texts.specs.Once
pub use Rattle.instruction_texts.specs.Symbols
pub use Rattle.instruction_texts.specs.Texts
