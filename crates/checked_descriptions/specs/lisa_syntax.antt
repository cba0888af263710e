pub use Rattle.lisa_syntax.specs.Texts
