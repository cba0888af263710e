use Rattle.std.proofs.Common.{◌∙◌, ◌+◌, ℕ, Option, drop, ap, sym, arith}
use Rattle.lisa_tree.specs.Statements.{stmt_trees}
use Rattle.least_fixed_points.specs.Settles.{entry}
use Rattle.text_counts.specs.Sums.{plus, one_more}
use Rattle.text_counts.specs.Behaviors.{weight, called, statements_count}
use Rattle.text_counts.specs.Steps.{known_nodes}
use Rattle.text_counts.proofs.Adding.{begins, goes_on, statements_capped, one_statement, block_count}
use Rattle.text_counts.proofs.behaviors.+counts.Goals as goal

pub statement_count-returns-in-Block : goal.statement_count-returns-in-Block
statement_count-returns-in-Block g t c =
    let d = g.N.Names.tree c.args.count.now.names.now in
    c.one_more.ensures
    ∙ ap one_more c.statements_count.ensures
    ∙ sym (block_count (weight (known_nodes c.args.count.now.nodes) d c.args.operation) (called (entry c.args.table.now) d c.args.operation) c.args.statement.now c.in-Block.all c.deref.result.now c.in-Block.is c.deref.ensures.value)

pub statements_count-loop-statement-init : goal.statements_count-loop-statement-init
statements_count-loop-statement-init g t c =
    let d = g.N.Names.tree c.args.count.now.names.now in
    begins _ (statements_capped (weight (known_nodes c.args.count.now.nodes) d c.args.operation) (called (entry c.args.table.now) d c.args.operation) c.args.all.now)

pub statements_count-loop-statement-preserved : goal.statements_count-loop-statement-preserved
statements_count-loop-statement-preserved g t c =
    let d = g.N.Names.tree c.args.count.now.names.now in
    let weigh = weight (known_nodes c.args.count.now.nodes) d c.args.operation in
    let call = called (entry c.args.table.now) d c.args.operation in
    let left = statements_count weigh call (stmt_trees (drop (c.loop-statement.statement-index + 1) c.args.all.now)) in
    goes_on _ _ c.statement_count.result _ _ _ c.loop-statement.invariant
    (one_statement weigh call c.args.all.now c.loop-statement.statement-index c.statement-item.result (omega arith) c.statement-item.is
    ∙ ap (λ (x : Option ℕ). plus x left) (sym c.statement_count.ensures))
    c.plus-sum.ensures
