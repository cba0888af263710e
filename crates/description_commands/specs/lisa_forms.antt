pub use Rattle.lisa_sim.specs.lisa_forms.Verdicts
