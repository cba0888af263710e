pub use Rattle.lisa_meaning.specs.lisa_forms.Choosing
pub use Rattle.lisa_meaning.specs.lisa_forms.Codings
pub use Rattle.lisa_meaning.specs.lisa_forms.Parts
pub use Rattle.lisa_meaning.specs.lisa_forms.Rows
pub use Rattle.lisa_meaning.specs.lisa_forms.Standings
pub use Rattle.lisa_meaning.specs.lisa_forms.Ways
pub use Rattle.lisa_meaning.specs.lisa_forms.declared
