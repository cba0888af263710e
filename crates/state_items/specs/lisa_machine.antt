pub use Rattle.lisa_meaning.specs.lisa_machine.Codings
pub use Rattle.lisa_meaning.specs.lisa_machine.Declaring
pub use Rattle.lisa_meaning.specs.lisa_machine.Verdicts
