pub use Rattle.lisa_forms.specs.stage_checks.Running
