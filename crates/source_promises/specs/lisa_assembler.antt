pub use Rattle.lisa_assembler.specs.Faults
pub use Rattle.lisa_assembler.specs.Memories
pub use Rattle.lisa_assembler.specs.Objects
pub use Rattle.lisa_assembler.specs.Places
pub use Rattle.lisa_assembler.specs.Sourced
pub use Rattle.lisa_assembler.specs.Sources
