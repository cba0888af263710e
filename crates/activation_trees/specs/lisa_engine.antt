pub use Rattle.lisa_machine.specs.lisa_engine.declared
