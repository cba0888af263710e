pub use Rattle.engine_commands.specs.Images
