pub use Rattle.lisa_machine.specs.kind_checks.Narrowings
pub use Rattle.lisa_machine.specs.kind_checks.WrongKinds
