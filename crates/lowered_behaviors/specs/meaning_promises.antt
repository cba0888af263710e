pub use Rattle.lowered_resources.specs.meaning_promises.Fitting
pub use Rattle.lowered_resources.specs.meaning_promises.Running
