pub use Rattle.module_sizes.specs.netlist_rules.Sizes
