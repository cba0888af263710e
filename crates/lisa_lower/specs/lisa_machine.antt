pub use Rattle.module_sizes.specs.lisa_machine.Machines
