-- What is left has the first fault of all, and the scope is the old one with more locals.
use Rattle.std.proofs.Common.{◌≡◌, length, take, drop}
use Rattle.lisa_tree.specs.Statements.{stmt_trees}
use Rattle.description_places.specs.Places.{first, all_places}
use Rattle.description_places.proofs.statements.+walk.Given as goal

abbrev pub invariant-walk_statements-loop-statement : goal.invariant-walk_statements-loop-statement
invariant-walk_statements-loop-statement g l = record {
  same : first (g.C.Condition.breaks l.condition) (all_places l.operation l.fn.scope (stmt_trees l.all)) ≡ first (g.C.Condition.breaks l.condition) (all_places l.operation l.scope (stmt_trees (drop l.statement-index l.all)));
  front : take (length l.fn.scope) l.scope ≡ l.fn.scope;
}
