pub use Rattle.module_sizes.specs.lisa_meaning.States
