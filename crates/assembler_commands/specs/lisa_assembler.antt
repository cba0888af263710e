pub use Rattle.source_promises.specs.lisa_assembler.Faults
pub use Rattle.source_promises.specs.lisa_assembler.Memories
pub use Rattle.source_promises.specs.lisa_assembler.Objects
