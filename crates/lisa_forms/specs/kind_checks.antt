pub use Rattle.form_promises.specs.kind_checks.Narrowings
pub use Rattle.form_promises.specs.kind_checks.WrongKinds
