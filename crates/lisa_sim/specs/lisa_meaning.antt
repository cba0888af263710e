pub use Rattle.activation_plans.specs.lisa_meaning.States
