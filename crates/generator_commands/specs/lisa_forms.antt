pub use Rattle.assembler_commands.specs.lisa_forms.Verdicts
