pub use Rattle.lisa_machine.specs.machine_parts.Laws
pub use Rattle.lisa_machine.specs.machine_parts.Parts
