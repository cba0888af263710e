-- What is counted, and what is left.
use Rattle.std.proofs.Common.{◌≡◌, ◌+◌, drop}
use Rattle.lisa_tree.specs.Statements.{stmt_trees}
use Rattle.behavior_runs.specs.Rooms.{all_locals}
use Rattle.behavior_runs.proofs.counts.+counts.Given as goal

abbrev pub invariant-count_all-each : goal.invariant-count_all-each
invariant-count_all-each l = l.total + all_locals (stmt_trees (drop l.statement-index l.all)) ≡ all_locals (stmt_trees l.all)
