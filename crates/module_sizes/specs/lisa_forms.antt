pub use Rattle.description_weight.specs.lisa_forms.Codings
pub use Rattle.description_weight.specs.lisa_forms.Parts
pub use Rattle.description_weight.specs.lisa_forms.Verdicts
