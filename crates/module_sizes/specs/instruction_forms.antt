pub use Rattle.description_weight.specs.instruction_forms.Widths
