pub use Rattle.lisa_machine.specs.shape_checks.Bounds
pub use Rattle.lisa_machine.specs.shape_checks.declared
