pub use Rattle.least_fixed_points.specs.Settles
