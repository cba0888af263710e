pub use Rattle.kind_checks.specs.Narrowings
pub use Rattle.kind_checks.specs.Uses
pub use Rattle.kind_checks.specs.WrongKinds
