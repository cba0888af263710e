pub use Rattle.item_promises.specs.description_sizes.Sizes
