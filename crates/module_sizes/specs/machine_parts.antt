pub use Rattle.lisa_machine.specs.machine_parts.Parts
