pub use Rattle.lisa_meaning.specs.lisa_machine.Assigning
pub use Rattle.lisa_meaning.specs.lisa_machine.Codings
pub use Rattle.lisa_meaning.specs.lisa_machine.Freedom
pub use Rattle.lisa_meaning.specs.lisa_machine.Resolving
pub use Rattle.lisa_meaning.specs.lisa_machine.Running
pub use Rattle.lisa_meaning.specs.lisa_machine.Soundness
pub use Rattle.lisa_meaning.specs.lisa_machine.Verdicts
