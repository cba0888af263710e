pub use Rattle.lisa_forms.specs.kind_checks.Narrowings
pub use Rattle.lisa_forms.specs.kind_checks.WrongKinds
