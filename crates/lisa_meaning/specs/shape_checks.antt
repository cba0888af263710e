pub use Rattle.use_promises.specs.shape_checks.Bounds
pub use Rattle.use_promises.specs.shape_checks.declared
