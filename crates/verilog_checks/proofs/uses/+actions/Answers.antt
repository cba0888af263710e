use Rattle.std.proofs.Common.{◌≡◌, ◌++◌, List, map, sym, ap, subst, ◌∙◌, arith}
use Rattle.std.specs.Prelude.{OnOk}
use Rattle.verilog_text.specs.Printing.{actions_size}
use Rattle.verilog_text.specs.Conditions.{action_uses}
use Rattle.verilog_places.specs.declared.modules.PlacedAction.{PlacedAction}
use Rattle.verilog_places.specs.Trees.{PlacedActions, Done, If, placed_tree, action_then, placed_actions, bare_actions}
use Rattle.verilog_checks.specs.Views.{counted_use, behind}
use Rattle.verilog_checks.proofs.Views.{action_then-If}
use Rattle.verilog_checks.proofs.UseLaws.{left_step, behind-then, action_below}
use Rattle.verilog_checks.proofs.uses.+actions.Goals as goal

pub put_action-returns-in-If : goal.put_action-returns-in-If
put_action-returns-in-If t c =
    let shape : action_then c.args.action.now Done ≡ If (placed_tree c.in-If.test) (placed_actions c.deref.result.now) (placed_actions c.deref-in-If.result.now) Done =
    ap (λ (a : PlacedAction). action_then a Done) c.in-If.is ∙ action_then-If c.in-If.test c.in-If.this c.in-If.other Done
    ∙ ap (λ (xs : List PlacedAction). If (placed_tree c.in-If.test) (placed_actions xs) (placed_actions c.in-If.other.items) Done) (sym c.deref.ensures.value)
    ∙ ap (λ (xs : List PlacedAction). If (placed_tree c.in-If.test) (placed_actions c.deref.result.now) (placed_actions xs) Done) (sym c.deref-in-If.ensures.value) in
    subst (λ (a : PlacedActions). OnOk c.put_if.result (map counted_use c.put_if.new.out.items ≡ map counted_use c.args.out.now.items ++ behind c.args.before (action_uses (bare_actions a)))) (sym shape) c.put_if.ensures

pub put_action-put_if-requires : goal.put_action-put_if-requires
put_action-put_if-requires t c =
    let shape : action_then c.args.action.now Done ≡ If (placed_tree c.in-If.test) (placed_actions c.deref.result.now) (placed_actions c.deref-in-If.result.now) Done =
    ap (λ (a : PlacedAction). action_then a Done) c.in-If.is ∙ action_then-If c.in-If.test c.in-If.this c.in-If.other Done
    ∙ ap (λ (xs : List PlacedAction). If (placed_tree c.in-If.test) (placed_actions xs) (placed_actions c.in-If.other.items) Done) (sym c.deref.ensures.value)
    ∙ ap (λ (xs : List PlacedAction). If (placed_tree c.in-If.test) (placed_actions c.deref.result.now) (placed_actions xs) Done) (sym c.deref-in-If.ensures.value) in
    (omega (arith, ap (λ (a : PlacedActions). actions_size (bare_actions a)) shape), tt)

pub put_actions-each-preserved : goal.put_actions-each-preserved
put_actions-each-preserved t c =
    left_step (λ (xs : List PlacedAction). behind c.args.before (action_uses (bare_actions (placed_actions xs)))) (λ (a : PlacedAction). behind c.args.before (action_uses (bare_actions (action_then a Done))))
    (map counted_use c.each.out.items) (map counted_use c.put_action.new.out.items)
    (map counted_use c.args.out.now.items) c.args.actions.now c.each.action-index c.action-item.result c.action-item.result (λ a rest. behind-then c.args.before a rest) c.each-test.true c.action-item.is
    c.in_ok-put_action.ensures c.each.invariant

pub put_actions-put_action-requires : goal.put_actions-put_action-requires
put_actions-put_action-requires t c =
    let below = action_below c.args.actions.now c.each.action-index c.action-item.result c.each-test.true in
    (omega (arith, below, ap (λ (a : PlacedAction). actions_size (bare_actions (action_then a Done))) c.action-item.is), tt)
