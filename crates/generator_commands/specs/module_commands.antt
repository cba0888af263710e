pub use Rattle.module_commands.specs.Clocks
pub use Rattle.module_commands.specs.Designs
