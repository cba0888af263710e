pub use Rattle.module_sizes.specs.machine_parts.Parts
