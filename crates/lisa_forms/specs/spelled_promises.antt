pub use Rattle.form_promises.specs.spelled_promises.Trees
pub use Rattle.form_promises.specs.spelled_promises.Words
