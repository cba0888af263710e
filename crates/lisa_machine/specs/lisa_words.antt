pub use Rattle.lisa_words.specs.declared
