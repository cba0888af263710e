pub use Rattle.lowered_behaviors.specs.Behaviors
pub use Rattle.lowered_behaviors.specs.Standpoints
pub use Rattle.lowered_behaviors.specs.Values
