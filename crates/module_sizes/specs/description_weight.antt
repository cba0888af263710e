pub use Rattle.description_weight.specs.Weights
