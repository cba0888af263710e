pub use Rattle.lowered_statements.specs.Agreement
pub use Rattle.lowered_statements.specs.Code
pub use Rattle.lowered_statements.specs.Scopes
pub use Rattle.lowered_statements.specs.Stated
pub use Rattle.lowered_statements.specs.Ways
