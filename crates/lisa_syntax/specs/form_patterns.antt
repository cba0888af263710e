pub use Rattle.lisa_forms.specs.form_patterns.Filled
pub use Rattle.lisa_forms.specs.form_patterns.Instructions
pub use Rattle.lisa_forms.specs.form_patterns.Rows
