pub use Rattle.lisa_syntax.specs.lisa_forms.Coverage
pub use Rattle.lisa_syntax.specs.lisa_forms.Rows
pub use Rattle.lisa_syntax.specs.lisa_forms.Verdicts
