pub use Rattle.lowered_behaviors.specs.meaning_promises.Fitting
