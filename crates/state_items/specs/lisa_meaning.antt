pub use Rattle.lisa_meaning.specs.Cores
pub use Rattle.lisa_meaning.specs.Laws
pub use Rattle.lisa_meaning.specs.Moments
pub use Rattle.lisa_meaning.specs.States
pub use Rattle.lisa_meaning.specs.Trees
