-- The nodes so far and those of the statements that are left make those of all.
use Rattle.std.proofs.Common.{◌≡◌, ◌+◌, ◌-◌, ◌^◌, ◌<◌, min, drop}
use Rattle.lisa_tree.specs.Statements.{stmt_trees}
use Rattle.typed_values.specs.Counts.{statements_nodes}
use Rattle.typed_values.proofs.counts.+nodes.Given as goal

abbrev pub invariant-count_nodes-loop-statement : goal.invariant-count_nodes-loop-statement
invariant-count_nodes-loop-statement l = record {
  sum : min (l.count + statements_nodes (stmt_trees (drop l.statement-index l.all))) (2 ^ 64 - 1) ≡ min (statements_nodes (stmt_trees l.all)) (2 ^ 64 - 1);
  fits : l.count < 2 ^ 64;
}
