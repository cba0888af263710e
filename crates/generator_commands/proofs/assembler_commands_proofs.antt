pub use Rattle.assembler_commands.proofs.MemoryRules
