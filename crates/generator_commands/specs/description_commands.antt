pub use Rattle.description_commands.specs.Checks
pub use Rattle.description_commands.specs.Formats
pub use Rattle.description_commands.specs.Occupancies
pub use Rattle.description_commands.specs.Runs
