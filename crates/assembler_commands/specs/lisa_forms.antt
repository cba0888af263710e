pub use Rattle.item_promises.specs.lisa_forms.Coverage
pub use Rattle.item_promises.specs.lisa_forms.Verdicts
