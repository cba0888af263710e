pub use Rattle.use_promises.specs.Meant
pub use Rattle.use_promises.specs.Using
pub use Rattle.use_promises.specs.Valued
