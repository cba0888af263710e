pub use Rattle.lisa_meaning.specs.description_sizes.Sizes
pub use Rattle.lisa_meaning.specs.description_sizes.Texts
