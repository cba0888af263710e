pub use Rattle.typed_values.specs.Words
