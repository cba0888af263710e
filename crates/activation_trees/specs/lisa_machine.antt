pub use Rattle.lisa_machine.specs.Declaring
pub use Rattle.lisa_machine.specs.Machines
pub use Rattle.lisa_machine.specs.Ranks
