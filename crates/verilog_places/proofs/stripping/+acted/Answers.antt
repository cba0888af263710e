use Rattle.std.proofs.Common.{◌≡◌, List, refl, sym, ap, ◌∙◌}
use Rattle.verilog_text.specs.Trees as plain
use Rattle.verilog_text.specs.Trees.{ActionTrees, vexpr_tree, action_trees}
use Rattle.verilog_text.proofs.Views.{action_then-If as plain_then-If}
use Rattle.verilog_places.specs.declared.modules.PlacedAction.{PlacedAction}
use Rattle.verilog_places.specs.Trees.{placed_tree, bare, action_then, placed_actions, bare_actions}
use Rattle.verilog_places.proofs.RowViews.{action_then-If}
use Rattle.verilog_places.proofs.ListSteps.{matches_whole, yields_whole}
use Rattle.verilog_places.proofs.stripping.+acted.Goals as goal

pub action-returns-in_ok-other-in-If : goal.action-returns-in_ok-other-in-If
action-returns-in_ok-other-in-If t c = λ more.
    let test = c.in_ok-test-in-If in
    let this = c.in_ok-this-in-If in
    let other = c.in_ok-other-in-If in
    plain_then-If test.test this.this other.other (bare_actions more)
    ∙ ap (λ (e : plain.VTree). plain.If e (action_trees this.this.items) (action_trees other.other.items) (bare_actions more)) test.ensures
    ∙ ap (λ (xs : ActionTrees). plain.If (bare (placed_tree c.in-If.test)) xs (action_trees other.other.items) (bare_actions more)) this.ensures
    ∙ ap (λ (xs : ActionTrees). plain.If (bare (placed_tree c.in-If.test)) (bare_actions (placed_actions c.in-If.this.items)) xs (bare_actions more)) other.ensures
    ∙ sym (ap bare_actions (ap (λ (a : PlacedAction). action_then a more) c.in-If.is ∙ action_then-If c.in-If.test c.in-If.this c.in-If.other more))

pub actions-returns : goal.actions-returns
actions-returns t c =
    let made = c.into_iter-one-iterator in
    let whole : c.each.yielded ≡ c.args.actions.items =
    yields_whole made.result c.each.one-iterator c.next.new.self c.args.actions.items c.each.yielded c.next.result made.ensures.into_iter_gives.0 (made.ensures.into_iter_gives.1 ∙ c.args.actions.ok.0) c.each.yielded_by c.in-None.is
    c.next.ensures.steps in
    matches_whole action_trees (λ (ys : List PlacedAction). bare_actions (placed_actions ys)) c.each.all.items c.each.yielded refl c.each.invariant ∙ ap (λ (ys : List PlacedAction). bare_actions (placed_actions ys)) whole
