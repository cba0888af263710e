pub use Rattle.description_sizes.specs.Cells
pub use Rattle.description_sizes.specs.Laws
pub use Rattle.description_sizes.specs.Limits
pub use Rattle.description_sizes.specs.Sizes
pub use Rattle.description_sizes.specs.Sums
pub use Rattle.description_sizes.specs.Texts
