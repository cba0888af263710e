pub use Rattle.lowered_resources.specs.Holding
pub use Rattle.lowered_resources.specs.Laws
pub use Rattle.lowered_resources.specs.Places
pub use Rattle.lowered_resources.specs.Putting
pub use Rattle.lowered_resources.specs.Reading
