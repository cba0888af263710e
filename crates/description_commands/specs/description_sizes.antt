pub use Rattle.checked_descriptions.specs.description_sizes.Laws
pub use Rattle.checked_descriptions.specs.description_sizes.Sizes
