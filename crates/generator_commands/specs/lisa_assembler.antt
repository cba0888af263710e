pub use Rattle.assembler_commands.specs.lisa_assembler.Faults
pub use Rattle.assembler_commands.specs.lisa_assembler.Memories
pub use Rattle.assembler_commands.specs.lisa_assembler.Objects
