pub use Rattle.lisa_forms.specs.description_sizes.Laws
pub use Rattle.lisa_forms.specs.description_sizes.Limits
pub use Rattle.lisa_forms.specs.description_sizes.Sizes
