pub use Rattle.lowered_layouts.specs.lowered_words.Choosing
pub use Rattle.lowered_layouts.specs.lowered_words.Labels
pub use Rattle.lowered_layouts.specs.lowered_words.Loading
pub use Rattle.lowered_layouts.specs.lowered_words.Rows
pub use Rattle.lowered_layouts.specs.lowered_words.Ways
