pub use Rattle.shape_checks.specs.Bounds
pub use Rattle.shape_checks.specs.Shapes
pub use Rattle.shape_checks.specs.declared
