pub use Rattle.moment_stores.specs.Changes
pub use Rattle.moment_stores.specs.Stores
pub use Rattle.moment_stores.specs.declared
