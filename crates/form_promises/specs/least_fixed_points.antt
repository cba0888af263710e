pub use Rattle.lisa_machine.specs.least_fixed_points.Settles
