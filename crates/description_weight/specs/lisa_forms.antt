pub use Rattle.lisa_forms.specs.Choosing
pub use Rattle.lisa_forms.specs.Codings
pub use Rattle.lisa_forms.specs.Parts
pub use Rattle.lisa_forms.specs.Verdicts
