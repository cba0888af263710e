pub use Rattle.lisa_forms.specs.Choosing
pub use Rattle.lisa_forms.specs.Codings
pub use Rattle.lisa_forms.specs.Parts
pub use Rattle.lisa_forms.specs.Rows
pub use Rattle.lisa_forms.specs.Standings
pub use Rattle.lisa_forms.specs.Verdicts
pub use Rattle.lisa_forms.specs.Ways
pub use Rattle.lisa_forms.specs.declared
