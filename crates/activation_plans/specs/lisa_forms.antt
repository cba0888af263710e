pub use Rattle.lisa_meaning.specs.lisa_forms.Codings
pub use Rattle.lisa_meaning.specs.lisa_forms.Parts
pub use Rattle.lisa_meaning.specs.lisa_forms.Verdicts
