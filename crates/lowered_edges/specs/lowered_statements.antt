pub use Rattle.lowered_behaviors.specs.lowered_statements.Scopes
pub use Rattle.lowered_behaviors.specs.lowered_statements.Stated
pub use Rattle.lowered_behaviors.specs.lowered_statements.Ways
