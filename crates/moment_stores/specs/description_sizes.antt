pub use Rattle.lisa_meaning.specs.description_sizes.Texts
