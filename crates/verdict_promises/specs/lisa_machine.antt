pub use Rattle.lisa_machine.specs.Verdicts
