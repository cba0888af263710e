pub use Rattle.use_promises.specs.kind_checks.Narrowings
