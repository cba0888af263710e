pub use Rattle.netlist_rules.specs.Sizes
