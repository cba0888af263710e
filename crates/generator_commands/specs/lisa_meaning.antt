pub use Rattle.description_commands.specs.lisa_meaning.States
