pub use Rattle.machine_parts.specs.Laws
pub use Rattle.machine_parts.specs.Parts
