-- The count so far and that of the statements that are left make that of all.
use Rattle.std.proofs.Common.{◌≡◌, ◌+◌, ◌-◌, ◌^◌, ◌<◌, min, drop}
use Rattle.lisa_tree.specs.Statements.{stmt_trees}
use Rattle.typed_values.specs.Counts.{statements_count}
use Rattle.typed_values.proofs.counts.+counts.Given as goal

abbrev pub invariant-count_statements-loop-statement : goal.invariant-count_statements-loop-statement
invariant-count_statements-loop-statement l = record {
  sum : min (l.count + statements_count (stmt_trees (drop l.statement-index l.all))) (2 ^ 64 - 1) ≡ min (statements_count (stmt_trees l.all)) (2 ^ 64 - 1);
  fits : l.count < 2 ^ 64;
}
