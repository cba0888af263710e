use Rattle.std.proofs.Common.{◌+◌, drop, arith}
use Rattle.lisa_tree.specs.Statements.{stmt_trees}
use Rattle.access_counts.specs.Accesses.{statements_accesses}
use Rattle.access_counts.proofs.Noting.{both_noted, going_on}
use Rattle.access_counts.proofs.Lists.{one_statement, block_added, assignment_added, if_added, if_else_added, while_added, for_added}
use Rattle.access_counts.proofs.behaviors.+statements.Goals as goal

pub note_behavior-loop-statement-preserved : goal.note_behavior-loop-statement-preserved
note_behavior-loop-statement-preserved g t c =
    let d = g.N.Names.tree c.args.names.now in
    going_on d c.args.operation _ _ _ _ _ _ (λ x names. statements_accesses x names (stmt_trees (drop (c.loop-statement.statement-index + 1) c.args.all.now))) _ c.loop-statement.invariant c.note_statement.ensures
    (λ x names. one_statement x names c.args.all.now c.loop-statement.statement-index c.statement-item.result (omega arith) c.statement-item.is)

pub note_statement-returns-in-Block : goal.note_statement-returns-in-Block
note_statement-returns-in-Block g t c =
    block_added (g.N.Names.tree c.args.names.now) c.args.operation _ _ _ c.args.statement.now c.in-Block.all c.deref.result.now c.in-Block.is c.deref.ensures.value c.note_behavior.ensures

pub note_statement-returns-in-Assign : goal.note_statement-returns-in-Assign
note_statement-returns-in-Assign g t c =
    let d = g.N.Names.tree c.args.names.now in
    assignment_added d c.args.operation _ _ _ c.args.statement.now c.in-Assign.place c.in-Assign.value c.in-Assign.is
    (both_noted d c.args.operation _ _ _ _ _ _ c.note_place.ensures c.note_value-in-Assign.ensures)

pub note_statement-returns-in-None : goal.note_statement-returns-in-None
note_statement-returns-in-None g t c =
    let d = g.N.Names.tree c.args.names.now in
    let a = c.in-If in
    if_added d c.args.operation _ _ _ c.args.statement.now a.test a.chosen a.other c.deref-in-If.result.now a.is c.deref-in-If.ensures c.in-None.is
    (both_noted d c.args.operation _ _ _ _ _ _ c.note_value-in-If.ensures c.note_statement.ensures)

pub note_statement-returns-in-Some : goal.note_statement-returns-in-Some
note_statement-returns-in-Some g t c =
    let d = g.N.Names.tree c.args.names.now in
    let a = c.in-If in
    let b = c.in-Some in
    if_else_added d c.args.operation _ _ _ c.args.statement.now a.test a.chosen b.other a.other c.deref-in-If.result.now c.deref-in-Some.result.now a.is c.deref-in-If.ensures b.is c.deref-in-Some.ensures
    (both_noted d c.args.operation _ _ _ _ _ _ c.note_value-in-If.ensures (both_noted d c.args.operation _ _ _ _ _ _ c.note_statement.ensures c.note_statement-in-Some.ensures))

pub note_statement-returns-in-While : goal.note_statement-returns-in-While
note_statement-returns-in-While g t c =
    let d = g.N.Names.tree c.args.names.now in
    let a = c.in-While in
    while_added d c.args.operation _ _ _ c.args.statement.now a.test a.body c.deref-in-While.result.now a.is c.deref-in-While.ensures
    (both_noted d c.args.operation _ _ _ _ _ _ c.note_value-in-While.ensures c.note_statement-in-While.ensures)

pub note_statement-returns-in-For : goal.note_statement-returns-in-For
note_statement-returns-in-For g t c =
    let a = c.in-For in
    for_added (g.N.Names.tree c.args.names.now) c.args.operation _ _ _ c.args.statement.now a.head a.body c.deref-in-For.result.now c.deref-in-For-2.result.now c.all_turns-turns.result a.is c.deref-in-For.ensures c.deref-in-For-2.ensures c.all_turns-turns.ensures
    c.note_statement-in-For.ensures
