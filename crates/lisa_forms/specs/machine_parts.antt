pub use Rattle.description_sizes.specs.machine_parts.Parts
