pub use Rattle.lowered_behaviors.specs.lowered_words.Laws
