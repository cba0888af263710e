pub use Rattle.lisa_meaning.specs.Cores
pub use Rattle.lisa_meaning.specs.Laws
pub use Rattle.lisa_meaning.specs.Scenes
pub use Rattle.lisa_meaning.specs.States
pub use Rattle.lisa_meaning.specs.Trees
pub use Rattle.lisa_meaning.specs.Values
