pub use Rattle.stage_checks.specs.Controls
pub use Rattle.stage_checks.specs.Resets
