pub use Rattle.typed_values.specs.Effects
pub use Rattle.typed_values.specs.Expressions
pub use Rattle.typed_values.specs.ResetEffects
pub use Rattle.typed_values.specs.Words
