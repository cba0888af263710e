pub use Rattle.lisa_meaning.specs.machine_parts.Parts
