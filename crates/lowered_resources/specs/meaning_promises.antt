pub use Rattle.meaning_promises.specs.Fitting
pub use Rattle.meaning_promises.specs.Forms
pub use Rattle.meaning_promises.specs.Running
pub use Rattle.meaning_promises.specs.Scoping
pub use Rattle.meaning_promises.specs.Typing
