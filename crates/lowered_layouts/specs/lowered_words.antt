pub use Rattle.lowered_words.specs.Choosing
pub use Rattle.lowered_words.specs.Code
pub use Rattle.lowered_words.specs.Labels
pub use Rattle.lowered_words.specs.Laws
pub use Rattle.lowered_words.specs.Loading
pub use Rattle.lowered_words.specs.Rows
pub use Rattle.lowered_words.specs.Ways
