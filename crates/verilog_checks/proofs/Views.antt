-- The lists that stand inside a recursive type are seen as those of their vectors.
use Rattle.std.proofs.Common.{◌≡◌, ℕ, refl, ap, ◌∙◌}
use Rattle.std.specs.Global.{Vec}
use mathlib.Core.Former.{Count}
use Rattle.verilog_places.specs.declared.expressions.PlacedExpr.{PlacedExpr, Join', Row_of-PlacedExpr, end_of-PlacedExpr, more_of-PlacedExpr, items-the_row-PlacedExpr, items_hidden-the_row-PlacedExpr-0}
use Rattle.verilog_places.specs.declared.expressions.PlacedExpr.TheVariants as exprs
use Rattle.verilog_places.specs.declared.modules.PlacedAction.{PlacedAction, If', Row_of-PlacedAction, end_of-PlacedAction, more_of-PlacedAction, items-the_row-PlacedAction, items_hidden-the_row-PlacedAction-0}
use Rattle.verilog_places.specs.declared.modules.PlacedAction.TheVariants as acts
use Rattle.verilog_places.specs.Trees as trees
use Rattle.verilog_places.specs.Trees.{PlacedActions, placed_tree, placed_trees, row_placed, action_then, placed_actions, row_actions}

abbrev join_row : PlacedExpr → (n : Count) × Row_of-PlacedExpr n
join_row (Join' _ _ row) = (_, row)
join_row _ = (_, end_of-PlacedExpr)

expr_row : (n : Count) (row : Row_of-PlacedExpr n) → row_placed row ≡ placed_trees (items-the_row-PlacedExpr n row)
expr_row n end_of-PlacedExpr = refl
expr_row n (more_of-PlacedExpr e rest) = ap (trees.Then (placed_tree e)) (expr_row _ rest)

pub placed_tree-Join : (at : ℕ) (v : Vec PlacedExpr) → placed_tree (exprs.Join at v) ≡ trees.Join at (placed_trees v.items)
placed_tree-Join at v =
    let row = join_row (exprs.Join at v) in
    ap (trees.Join at) (expr_row row.0 row.1 ∙ ap placed_trees (items_hidden-the_row-PlacedExpr-0 v))

abbrev this_row : PlacedAction → (n : Count) × Row_of-PlacedAction n
this_row (If' test _ row _ other) = (_, row)
this_row _ = (_, end_of-PlacedAction)

abbrev other_row : PlacedAction → (n : Count) × Row_of-PlacedAction n
other_row (If' test _ row _ other) = (_, other)
other_row _ = (_, end_of-PlacedAction)

action_row : (n : Count) (row : Row_of-PlacedAction n) → row_actions row ≡ placed_actions (items-the_row-PlacedAction n row)
action_row n end_of-PlacedAction = refl
action_row n (more_of-PlacedAction a rest) = ap (action_then a) (action_row _ rest)

pub action_then-If : (e : PlacedExpr) (v w : Vec PlacedAction) (more : PlacedActions)
    → action_then (acts.If e v w) more ≡ trees.If (placed_tree e) (placed_actions v.items) (placed_actions w.items) more
action_then-If e v w more =
    let row = this_row (acts.If e v w) in
    let others = other_row (acts.If e v w) in
    ap (λ (xs : PlacedActions). trees.If (placed_tree e) xs (row_actions others.1) more) (action_row row.0 row.1 ∙ ap placed_actions (items_hidden-the_row-PlacedAction-0 v))
    ∙ ap (λ (xs : PlacedActions). trees.If (placed_tree e) (placed_actions v.items) xs more) (action_row others.0 others.1 ∙ ap placed_actions (items_hidden-the_row-PlacedAction-0 w))
