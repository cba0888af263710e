pub use Rattle.stage_checks.specs.Controls
