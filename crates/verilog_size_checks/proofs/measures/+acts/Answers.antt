use Rattle.std.proofs.Common.{◌≡◌, ℕ, true, false, Option, ◌+◌, drop, sym, ap₂, ◌∙◌}
use Rattle.std.specs.Option.{is_some}
use Rattle.verilog_text.specs.WidePlaces.{◌or_else◌}
use Rattle.verilog_places.specs.Trees.{action_then, Done, placed_actions}
use Rattle.verilog_places.specs.WidePlaces.{wide_actions}
use Rattle.verilog_size_checks.specs.Scopes.{widths_in}
use Rattle.verilog_size_checks.proofs.ActionLaws.{wide_if, wide_step, some_first, none_first}
use Rattle.verilog_size_checks.proofs.measures.+acts.Goals as goal

pub wide_action-returns-in-If : goal.wide_action-returns-in-If
wide_action-returns-in-If t c =
    c.first-in-If.ensures
    ∙ ap₂ (λ (a b : Option ℕ). a or_else b) c.wide_expr-in-If.ensures (c.first-branches.ensures ∙ ap₂ (λ (a b : Option ℕ). a or_else b) c.wide_actions.ensures c.wide_actions-in-If.ensures)
    ∙ sym (wide_if (widths_in c.args.scope.now) c.in-If.test _ _ c.args.action.now c.deref.result.now c.deref-in-If.result.now c.in-If.is c.deref.ensures.value c.deref-in-If.ensures.value)

pub wide_actions-returns-then-is_some : goal.wide_actions-returns-then-is_some
wide_actions-returns-then-is_some t c =
    let w = widths_in c.args.scope.now in
    let here = wide_actions w (action_then c.action-item.result Done) in
    let behind = wide_actions w (placed_actions (drop (c.each.action-index + 1) c.args.actions.now)) in
    let some : is_some c.wide_action-found.result ≡ true = cc in
    some_first here behind c.wide_action-found.result c.wide_action-found.ensures some
    ∙ sym (wide_step w c.args.actions.now c.each.action-index c.action-item.result c.each-test.true c.action-item.is) ∙ c.each.invariant

pub wide_actions-each-preserved : goal.wide_actions-each-preserved
wide_actions-each-preserved t c =
    let w = widths_in c.args.scope.now in
    let here = wide_actions w (action_then c.action-item.result Done) in
    let behind = wide_actions w (placed_actions (drop (c.each.action-index + 1) c.args.actions.now)) in
    let none : is_some c.wide_action-found.result ≡ false = cc in
    none_first here behind c.wide_action-found.result c.wide_action-found.ensures none
    ∙ sym (wide_step w c.args.actions.now c.each.action-index c.action-item.result c.each-test.true c.action-item.is) ∙ c.each.invariant
