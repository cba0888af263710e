pub use Rattle.lisa_sim.specs.machine_parts.Parts
