pub use Rattle.form_patterns.specs.Filled
pub use Rattle.form_patterns.specs.Instructions
pub use Rattle.form_patterns.specs.Rows
