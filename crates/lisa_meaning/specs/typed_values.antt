pub use Rattle.lisa_forms.specs.typed_values.Words
