pub use Rattle.touch_promises.specs.lisa_meaning.States
