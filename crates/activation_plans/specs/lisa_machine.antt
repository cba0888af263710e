pub use Rattle.lisa_meaning.specs.lisa_machine.Codings
pub use Rattle.lisa_meaning.specs.lisa_machine.Freedom
pub use Rattle.lisa_meaning.specs.lisa_machine.Machines
pub use Rattle.lisa_meaning.specs.lisa_machine.Verdicts
