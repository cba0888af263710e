pub use Rattle.use_promises.specs.lisa_machine.Declaring
pub use Rattle.use_promises.specs.lisa_machine.Freedom
pub use Rattle.use_promises.specs.lisa_machine.Machines
pub use Rattle.use_promises.specs.lisa_machine.Ranks
pub use Rattle.use_promises.specs.lisa_machine.Resolving
pub use Rattle.use_promises.specs.lisa_machine.Running
pub use Rattle.use_promises.specs.lisa_machine.Soundness
pub use Rattle.use_promises.specs.lisa_machine.Verdicts
