pub use Rattle.lisa_machine.specs.Codings
pub use Rattle.lisa_machine.specs.Freedom
pub use Rattle.lisa_machine.specs.Machines
pub use Rattle.lisa_machine.specs.Soundness
pub use Rattle.lisa_machine.specs.Verdicts
