use Rattle.std.proofs.Common.{List, ap, sym, subst, ◌∙◌, arith}
use Rattle.verilog_text.specs.declared.modules.Action.{Action}
use Rattle.verilog_text.specs.Trees.{action_then, action_trees, Done}
use Rattle.verilog_text.specs.Clocked.{widths_of}
use Rattle.verilog_text.specs.Clockable.{AreNarrowActions}
use Rattle.verilog_clock.specs.Scopes.{module_in}
use Rattle.verilog_clock.proofs.Trees.{actions_size, action_at, action_then-If}
use Rattle.verilog_clock.proofs.Acting.{if_means, act_more, narrow_next, narrow_if}
use Rattle.verilog_clock.proofs.actions.+acts.Goals as goal

pub compile_action-compile_actions-requires : goal.compile_action-compile_actions-requires
compile_action-compile_actions-requires t c =
    let w = widths_of (module_in c.args.scope.now) in
    let narrow = narrow_if w c.args.action.now c.in-If.test c.in-If.this c.in-If.other c.in-If.is c.requires in
    let tree = ap (λ (x : Action). action_then x Done) c.in-If.is ∙ action_then-If c.in-If.test c.in-If.this c.in-If.other Done in (
      omega (arith, c.decreases, ap actions_size tree, ap (λ (xs : List Action). actions_size (action_trees xs)) c.deref.ensures.value),
      subst (λ (xs : List Action). AreNarrowActions w (action_trees xs)) (sym c.deref.ensures.value) narrow.1,
    )

pub compile_action-compile_actions-requires-in-If : goal.compile_action-compile_actions-requires-in-If
compile_action-compile_actions-requires-in-If t c =
    let w = widths_of (module_in c.args.scope.now) in
    let narrow = narrow_if w c.args.action.now c.in-If.test c.in-If.this c.in-If.other c.in-If.is c.requires in
    let tree = ap (λ (x : Action). action_then x Done) c.in-If.is ∙ action_then-If c.in-If.test c.in-If.this c.in-If.other Done in (
      omega (arith, c.decreases, ap actions_size tree, ap (λ (xs : List Action). actions_size (action_trees xs)) c.deref-in-If.ensures.value),
      subst (λ (xs : List Action). AreNarrowActions w (action_trees xs)) (sym c.deref-in-If.ensures.value) narrow.2,
    )

pub compile_action-returns-in_ok-compile_actions-in-If-2 : goal.compile_action-returns-in_ok-compile_actions-in-If-2
compile_action-returns-in_ok-compile_actions-in-If-2 t c = if_means (module_in c.args.scope.now) c.args.action.now c.in-If.test c.in-If.this c.in-If.other c.deref.result.now c.deref-in-If.result.now
    c.in_ok-test-in-If.test c.new-these.result.items c.new-others.result.items c.compile_actions.new.acts c.compile_actions-in-If.new.acts
    c.in-If.is c.deref.ensures.value c.deref-in-If.ensures.value c.in_ok-test-in-If.ensures c.new-these.ensures.items c.new-others.ensures.items
    c.in_ok-compile_actions-in-If.ensures c.in_ok-compile_actions-in-If-2.ensures

pub compile_actions-compile_action-requires : goal.compile_actions-compile_action-requires
compile_actions-compile_action-requires t c =
    let next = narrow_next (widths_of (module_in c.args.scope.now)) c.args.actions.now c.each.action-index c.action-item.result c.each-test.true c.action-item.is c.each.invariant.narrow in
    (omega (arith, c.decreases, action_at _ _ _ c.each-test.true c.action-item.is), next.0)

pub compile_actions-each-preserved : goal.compile_actions-each-preserved
compile_actions-each-preserved t c = record {
  left = λ values cells within. act_more (module_in c.args.scope.now) values cells _ _ c.in_ok-act.act c.args.actions.now c.each.action-index c.action-item.result _
      within c.each-test.true c.action-item.is c.in_ok-act.ensures c.in_ok-push.ensures.items (c.each.invariant.left values cells within);
  narrow = (narrow_next (widths_of (module_in c.args.scope.now)) c.args.actions.now c.each.action-index c.action-item.result c.each-test.true c.action-item.is c.each.invariant.narrow).1;
}
