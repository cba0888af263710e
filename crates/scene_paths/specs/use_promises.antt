pub use Rattle.lisa_meaning.specs.use_promises.Meant
pub use Rattle.lisa_meaning.specs.use_promises.Using
pub use Rattle.lisa_meaning.specs.use_promises.Valued
