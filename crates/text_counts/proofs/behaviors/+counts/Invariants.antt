-- The count so far and that of the statements that are left make that of all.
use Rattle.std.proofs.Common.{drop}
use Rattle.lisa_tree.specs.Statements.{stmt_trees}
use Rattle.least_fixed_points.specs.Settles.{entry}
use Rattle.text_counts.specs.Behaviors.{weight, called, statements_count}
use Rattle.text_counts.specs.Steps.{known_nodes}
use Rattle.text_counts.proofs.Adding.{Summing}
use Rattle.text_counts.proofs.behaviors.+counts.Given as goal

abbrev pub invariant-statements_count-loop-statement : goal.invariant-statements_count-loop-statement
invariant-statements_count-loop-statement g l =
    let d = g.N.Names.tree l.count.names.now in
    let weigh = weight (known_nodes l.count.nodes) d l.operation in
    let call = called (entry l.table) d l.operation in
    Summing l.sum (statements_count weigh call (stmt_trees (drop l.statement-index l.all))) (statements_count weigh call (stmt_trees l.all))
