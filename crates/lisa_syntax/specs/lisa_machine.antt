pub use Rattle.lisa_forms.specs.lisa_machine.Codings
pub use Rattle.lisa_forms.specs.lisa_machine.Machines
pub use Rattle.lisa_forms.specs.lisa_machine.Soundness
pub use Rattle.lisa_forms.specs.lisa_machine.Verdicts
