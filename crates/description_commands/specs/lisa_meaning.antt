pub use Rattle.lisa_sim.specs.lisa_meaning.States
