pub use Rattle.lowered_words.proofs.Choices
pub use Rattle.lowered_words.proofs.Leaving
pub use Rattle.lowered_words.proofs.Loaded
pub use Rattle.lowered_words.proofs.Telling
pub use Rattle.lowered_words.proofs.Widths
