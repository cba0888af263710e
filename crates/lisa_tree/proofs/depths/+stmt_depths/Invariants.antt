-- The depth so far and that of the statements that are left make that of all.
use Rattle.std.proofs.Common.{◌≡◌, ◌-◌, ◌^◌, max, min, drop}
use Rattle.lisa_tree.specs.Statements.{stmt_trees, stmts_depth}
use Rattle.lisa_tree.proofs.depths.+stmt_depths.Given as goal

abbrev pub invariant-stmts_depth-loop-s : goal.invariant-stmts_depth-loop-s
invariant-stmts_depth-loop-s l =
    max l.deepest (min (stmts_depth (stmt_trees (drop l.s-index l.all))) (2 ^ 32 - 1)) ≡ min (stmts_depth (stmt_trees l.all)) (2 ^ 32 - 1)
