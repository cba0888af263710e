pub use Rattle.lisa_syntax.specs.lisa_forms.Verdicts
