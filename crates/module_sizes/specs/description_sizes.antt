pub use Rattle.description_weight.specs.description_sizes.Sizes
