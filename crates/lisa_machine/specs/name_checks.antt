pub use Rattle.name_checks.specs.Doubled
pub use Rattle.name_checks.specs.Unknown
