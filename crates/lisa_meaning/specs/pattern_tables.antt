pub use Rattle.lisa_forms.specs.pattern_tables.Instructions
