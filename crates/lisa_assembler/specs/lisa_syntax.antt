pub use Rattle.lisa_syntax.specs.Lines
pub use Rattle.lisa_syntax.specs.Orders
pub use Rattle.lisa_syntax.specs.declared
