pub use Rattle.assembler_commands.specs.Assembled
pub use Rattle.assembler_commands.specs.DescriptionObjects
pub use Rattle.assembler_commands.specs.Links
pub use Rattle.assembler_commands.specs.Listed
