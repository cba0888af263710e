pub use Rattle.lisa_forms.specs.machine_parts.Parts
