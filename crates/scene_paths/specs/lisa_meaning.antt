pub use Rattle.lisa_meaning.specs.Cores
pub use Rattle.lisa_meaning.specs.Effects
pub use Rattle.lisa_meaning.specs.Moments
pub use Rattle.lisa_meaning.specs.Scenes
pub use Rattle.lisa_meaning.specs.Standings
pub use Rattle.lisa_meaning.specs.Values
