use Rattle.std.proofs.Common.{◌≡◌, drop}
use Rattle.lisa_tree.specs.Statements.{stmt_trees}
use Rattle.stage_checks.specs.Closing.{any_holds}
use Rattle.stage_checks.proofs.closing.+holds.Given as goal

abbrev pub invariant-any_holds-loop-statement : goal.invariant-any_holds-loop-statement
invariant-any_holds-loop-statement l = any_holds (stmt_trees (drop l.statement-index l.all)) ≡ any_holds (stmt_trees l.all)
