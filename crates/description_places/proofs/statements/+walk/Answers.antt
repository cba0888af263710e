use Rattle.std.proofs.Common.{sym, ap, ◌∙◌, arith}
use Rattle.std.specs.Option.{is_some}
use Rattle.lisa_tree.specs.Statements.{stmt_tree, stmt_trees}
use Rattle.lisa_tree.proofs.Views.{stmt_tree-Block}
use Rattle.description_places.specs.Places.{first, places, all_places}
use Rattle.description_places.proofs.Firsts.{gone, never}
use Rattle.description_places.proofs.Choices.{if_first, if_other, if_none}
use Rattle.description_places.proofs.Locals.{kept}
use Rattle.description_places.proofs.Lists.{statements_past, statements_stop}
use Rattle.description_places.proofs.statements.+walk.Goals as goal

pub walk_statement-returns-in_ok-found-in-Block-clause-exact : goal.walk_statement-returns-in_ok-found-in-Block-clause-exact
walk_statement-returns-in_ok-found-in-Block-clause-exact g t c =
    c.in_ok-found-in-Block.ensures.exact
    ∙ ap (λ a. first (g.C.Condition.breaks c.args.condition.now) (all_places c.args.operation c.args.scope.now (stmt_trees a))) c.deref.ensures.value
    ∙ ap (λ a. first (g.C.Condition.breaks c.args.condition.now) (places c.args.operation c.args.scope.now a)) (sym (ap stmt_tree c.in-Block.is ∙ stmt_tree-Block c.in-Block.all))

pub walk_statement-returns-in-Some-clause-exact : goal.walk_statement-returns-in-Some-clause-exact
walk_statement-returns-in-Some-clause-exact g t c =
    let a = c.in-If in
    let e = c.in_ok-fault-in-If in
    sym c.in-Some.is
    ∙ if_first (g.C.Condition.breaks c.args.condition.now) c.args.operation c.args.scope.now c.args.statement.now a.test a.chosen a.other c.deref-in-If.result.now e.field-0 a.is c.deref-in-If.ensures e.ensures.exact
    (ap is_some c.in-Some.is)

pub walk_statement-returns-in_ok-found-in-Some-other-clause-exact : goal.walk_statement-returns-in_ok-found-in-Some-other-clause-exact
walk_statement-returns-in_ok-found-in-Some-other-clause-exact g t c =
    let a = c.in-If in
    let e = c.in_ok-fault-in-If in
    let off = never e.field-0 c.in_default.not-Some in
    if_other (g.C.Condition.breaks c.args.condition.now) c.args.operation c.args.scope.now c.args.statement.now a.test a.chosen a.other c.deref-in-If.result.now e.field-0 a.is c.deref-in-If.ensures e.ensures.exact
    c.in-Some-other.other c.deref-in-Some-other.result.now c.walk_choice.new.scope c.in_ok-found-in-Some-other.found c.in-Some-other.is c.deref-in-Some-other.ensures off (e.ensures.scope (gone e.field-0 off)) c.in_ok-found-in-Some-other.ensures.exact

pub walk_statement-returns-in-None-clause-exact : goal.walk_statement-returns-in-None-clause-exact
walk_statement-returns-in-None-clause-exact g t c =
    let a = c.in-If in
    let e = c.in_ok-fault-in-If in
    if_none (g.C.Condition.breaks c.args.condition.now) c.args.operation c.args.scope.now c.args.statement.now a.test a.chosen a.other c.deref-in-If.result.now e.field-0 a.is c.deref-in-If.ensures e.ensures.exact
    c.in-None.is (never e.field-0 c.in_default.not-Some)

pub walk_statements-returns-in-Some-clause-exact : goal.walk_statements-returns-in-Some-clause-exact
walk_statements-returns-in-Some-clause-exact g t c =
    statements_stop (g.C.Condition.breaks c.args.condition.now) c.args.operation c.loop-statement.scope c.args.all.now c.loop-statement.statement-index c.statement-item.result c.in-Some.fault (omega arith)
    c.statement-item.is (sym c.in_ok-fault.ensures.exact ∙ c.in-Some.is)
    ∙ sym c.loop-statement.invariant.same

pub walk_statements-loop-statement-preserved : goal.walk_statements-loop-statement-preserved
walk_statements-loop-statement-preserved g t c =
    let none = gone c.in_ok-fault.field-0 (never c.in_ok-fault.field-0 c.in_default.not-Some) in
    let i = c.loop-statement.invariant in
    record {
      same =
          i.same
          ∙ statements_past (g.C.Condition.breaks c.args.condition.now) c.args.operation c.loop-statement.scope c.walk_statement.new.scope c.args.all.now c.loop-statement.statement-index c.statement-item.result (omega arith)
          c.statement-item.is (c.in_ok-fault.ensures.scope none) (sym c.in_ok-fault.ensures.exact ∙ none);
      front = rw (c.in_ok-fault.ensures.scope none) (kept _ _ _ i.front);
    }
