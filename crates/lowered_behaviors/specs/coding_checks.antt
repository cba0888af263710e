pub use Rattle.lowered_words.specs.coding_checks.Uneven
pub use Rattle.lowered_words.specs.coding_checks.Widths
