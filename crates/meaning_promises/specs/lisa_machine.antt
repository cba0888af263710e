pub use Rattle.lisa_meaning.specs.lisa_machine.Resolving
pub use Rattle.lisa_meaning.specs.lisa_machine.Verdicts
