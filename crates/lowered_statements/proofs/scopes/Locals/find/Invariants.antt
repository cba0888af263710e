-- No local that was passed has the name.
use Rattle.std.proofs.Common.{◌≡◌, drop, map}
use Rattle.std.specs.Map.{lookup}
use Rattle.lisa_tree.specs.Same.{same_name}
use Rattle.lowered_statements.specs.Code.{entry_of, scope_of}
use Rattle.lowered_statements.proofs.scopes.Locals.find.Given as goal

abbrev pub invariant-each : goal.invariant-each
invariant-each l = lookup (same_name l.name) (map entry_of (drop l.entry-index l.entry-items)) ≡ lookup (same_name l.name) (scope_of l.self)
