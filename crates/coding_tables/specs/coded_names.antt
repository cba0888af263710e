pub use Rattle.coded_names.specs.Codings
