pub use Rattle.description_types.specs.Shapes
