pub use Rattle.module_sizes.specs.description_weight.Weights
