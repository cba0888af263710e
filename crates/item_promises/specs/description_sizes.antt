pub use Rattle.lisa_forms.specs.description_sizes.Cells
pub use Rattle.lisa_forms.specs.description_sizes.Laws
pub use Rattle.lisa_forms.specs.description_sizes.Sizes
pub use Rattle.lisa_forms.specs.description_sizes.Sums
pub use Rattle.lisa_forms.specs.description_sizes.Texts
