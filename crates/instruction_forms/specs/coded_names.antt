pub use Rattle.coding_tables.specs.coded_names.Codings
