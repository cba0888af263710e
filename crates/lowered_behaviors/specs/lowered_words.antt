pub use Rattle.lowered_words.specs.Laws
