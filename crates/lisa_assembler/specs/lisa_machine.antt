pub use Rattle.lisa_syntax.specs.lisa_machine.Codings
pub use Rattle.lisa_syntax.specs.lisa_machine.Soundness
pub use Rattle.lisa_syntax.specs.lisa_machine.Verdicts
