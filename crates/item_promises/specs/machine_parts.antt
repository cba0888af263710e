pub use Rattle.use_promises.specs.machine_parts.Parts
