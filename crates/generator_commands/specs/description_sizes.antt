pub use Rattle.assembler_commands.specs.description_sizes.Sizes
