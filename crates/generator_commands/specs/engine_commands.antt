pub use Rattle.engine_commands.specs.Replays
