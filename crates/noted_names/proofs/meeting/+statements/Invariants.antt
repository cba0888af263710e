use Rattle.std.proofs.Common.{◌≡◌, ◌++◌, drop}
use Rattle.lisa_tree.specs.Statements.{stmt_trees}
use Rattle.noted_names.specs.Standing.{names_of, in_statements}
use Rattle.noted_names.proofs.meeting.+statements.Given as goal

abbrev pub invariant-add_statements-each : goal.invariant-add_statements-each
invariant-add_statements-each l = names_of l.met.items ++ in_statements (stmt_trees (drop l.statement-index l.all)) ≡ names_of l.fn.met.items ++ in_statements (stmt_trees l.all)
