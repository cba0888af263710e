pub use Rattle.form_promises.specs.lisa_machine.Codings
pub use Rattle.form_promises.specs.lisa_machine.Freedom
pub use Rattle.form_promises.specs.lisa_machine.Machines
pub use Rattle.form_promises.specs.lisa_machine.Soundness
pub use Rattle.form_promises.specs.lisa_machine.Verdicts
