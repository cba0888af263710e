pub use Rattle.lisa_syntax.specs.description_sizes.Laws
pub use Rattle.lisa_syntax.specs.description_sizes.Limits
pub use Rattle.lisa_syntax.specs.description_sizes.Sizes
