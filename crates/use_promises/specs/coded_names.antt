pub use Rattle.lisa_machine.specs.coded_names.Codings
