pub use Rattle.lowered_behaviors.specs.Agreement
