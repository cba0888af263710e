pub use Rattle.description_sizes.specs.typed_values.Effects
pub use Rattle.description_sizes.specs.typed_values.Expressions
pub use Rattle.description_sizes.specs.typed_values.ResetEffects
pub use Rattle.description_sizes.specs.typed_values.Words
