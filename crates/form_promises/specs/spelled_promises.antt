pub use Rattle.spelled_promises.specs.Trees
pub use Rattle.spelled_promises.specs.Words
