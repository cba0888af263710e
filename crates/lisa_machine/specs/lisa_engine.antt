pub use Rattle.lisa_engine.specs.declared
