-- The lists that stand inside a recursive type are seen as those of their vectors.
use Rattle.std.proofs.Common.{◌≡◌, refl, ap, ◌∙◌}
use Rattle.std.specs.Global.{Vec}
use mathlib.Core.Former.{Count}
use Rattle.verilog_text.specs.declared.expressions.VExpr.{VExpr, Join', Row_of-VExpr, end_of-VExpr, more_of-VExpr, items-the_row-VExpr, items_hidden-the_row-VExpr-0}
use Rattle.verilog_text.specs.declared.expressions.VExpr.TheVariants as exprs
use Rattle.verilog_text.specs.declared.modules.Action.{Action, If', Row_of-Action, end_of-Action, more_of-Action, items-the_row-Action, items_hidden-the_row-Action-0}
use Rattle.verilog_text.specs.declared.modules.Action.TheVariants as acts
use Rattle.verilog_text.specs.Trees as trees
use Rattle.verilog_text.specs.Trees.{VTree, VTrees, ActionTrees, vexpr_tree, vexpr_trees, row_trees, action_then, action_trees, row_actions}

abbrev join_row : VExpr → (n : Count) × Row_of-VExpr n
join_row (Join' _ row) = (_, row)
join_row _ = (_, end_of-VExpr)

expr_row : (n : Count) (row : Row_of-VExpr n) → row_trees row ≡ vexpr_trees (items-the_row-VExpr n row)
expr_row n end_of-VExpr = refl
expr_row n (more_of-VExpr e rest) = ap (trees.Then (vexpr_tree e)) (expr_row _ rest)

pub vexpr_tree-Join : (v : Vec VExpr) → vexpr_tree (exprs.Join v) ≡ trees.Join (vexpr_trees v.items)
vexpr_tree-Join v =
    let row = join_row (exprs.Join v) in
    ap trees.Join (expr_row row.0 row.1 ∙ ap vexpr_trees (items_hidden-the_row-VExpr-0 v))

abbrev this_row : Action → (n : Count) × Row_of-Action n
this_row (If' test _ row _ other) = (_, row)
this_row _ = (_, end_of-Action)

abbrev other_row : Action → (n : Count) × Row_of-Action n
other_row (If' test _ row _ other) = (_, other)
other_row _ = (_, end_of-Action)

action_row : (n : Count) (row : Row_of-Action n) → row_actions row ≡ action_trees (items-the_row-Action n row)
action_row n end_of-Action = refl
action_row n (more_of-Action a rest) = ap (action_then a) (action_row _ rest)

pub action_then-If : (e : VExpr) (v w : Vec Action) (more : ActionTrees) → action_then (acts.If e v w) more ≡ trees.If (vexpr_tree e) (action_trees v.items) (action_trees w.items) more
action_then-If e v w more =
    let row = this_row (acts.If e v w) in
    let others = other_row (acts.If e v w) in
    ap (λ (xs : ActionTrees). trees.If (vexpr_tree e) xs (row_actions others.1) more) (action_row row.0 row.1 ∙ ap action_trees (items_hidden-the_row-Action-0 v))
    ∙ ap (λ (xs : ActionTrees). trees.If (vexpr_tree e) (action_trees v.items) xs more) (action_row others.0 others.1 ∙ ap action_trees (items_hidden-the_row-Action-0 w))
