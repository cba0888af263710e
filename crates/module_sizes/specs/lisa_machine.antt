pub use Rattle.lisa_machine.specs.Machines
pub use Rattle.lisa_machine.specs.Verdicts
