pub use Rattle.typed_values.specs.Effects
pub use Rattle.typed_values.specs.Laws
pub use Rattle.typed_values.specs.ResetEffects
pub use Rattle.typed_values.specs.Words
