pub use Rattle.lisa_meaning.specs.use_promises.Meant
