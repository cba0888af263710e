pub use Rattle.item_promises.specs.lisa_machine.Machines
