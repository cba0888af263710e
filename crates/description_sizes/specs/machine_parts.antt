pub use Rattle.machine_parts.specs.Parts
