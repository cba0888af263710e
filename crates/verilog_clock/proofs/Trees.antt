-- Lists that stand inside expressions and actions of modules are seen as those of their vectors; measures of both.
use Rattle.std.proofs.Common.{◌≡◌, ℕ, zero, suc, ◌+◌, ◌<◌, ◌≤◌, List, [], ◌∷◌, length, get_or, Some, None, refl, ap, ◌∙◌, arith}
use Rattle.std.specs.Global.{Vec}
use mathlib.Core.Former.{Count}
use Rattle.verilog_text.specs.declared.expressions.VExpr.{VExpr, Join', Row_of-VExpr, end_of-VExpr, more_of-VExpr, items-the_row-VExpr, items_hidden-the_row-VExpr-0}
use Rattle.verilog_text.specs.declared.expressions.VExpr.TheVariants as exprs
use Rattle.verilog_text.specs.declared.modules.Action.{Action, If', Row_of-Action, end_of-Action, more_of-Action, items-the_row-Action, items_hidden-the_row-Action-0}
use Rattle.verilog_text.specs.declared.modules.Action.TheVariants as acts
use Rattle.verilog_text.specs.Trees as trees
use Rattle.verilog_text.specs.Trees.{VTree, VTrees, ActionTrees, vexpr_tree, vexpr_trees, row_trees, action_then, action_trees, row_actions}

abbrev join_row : VExpr → (n : Count) × Row_of-VExpr n
join_row (Join' _ row) = (_, row)
join_row _ = (_, end_of-VExpr)

expr_row : (n : Count) (row : Row_of-VExpr n) → row_trees row ≡ vexpr_trees (items-the_row-VExpr n row)
expr_row n end_of-VExpr = refl
expr_row n (more_of-VExpr e rest) = ap (trees.Then (vexpr_tree e)) (expr_row _ rest)

pub vexpr_tree-Join : (v : Vec VExpr) → vexpr_tree (exprs.Join v) ≡ trees.Join (vexpr_trees v.items)
vexpr_tree-Join v =
    let row = join_row (exprs.Join v) in
    ap trees.Join (expr_row row.0 row.1 ∙ ap vexpr_trees (items_hidden-the_row-VExpr-0 v))

abbrev this_row : Action → (n : Count) × Row_of-Action n
this_row (If' test _ row _ other) = (_, row)
this_row _ = (_, end_of-Action)

abbrev other_row : Action → (n : Count) × Row_of-Action n
other_row (If' test _ row _ other) = (_, other)
other_row _ = (_, end_of-Action)

action_row : (n : Count) (row : Row_of-Action n) → row_actions row ≡ action_trees (items-the_row-Action n row)
action_row n end_of-Action = refl
action_row n (more_of-Action a rest) = ap (action_then a) (action_row _ rest)

pub action_then-If : (e : VExpr) (v w : Vec Action) (more : ActionTrees) → action_then (acts.If e v w) more ≡ trees.If (vexpr_tree e) (action_trees v.items) (action_trees w.items) more
action_then-If e v w more =
    let row = this_row (acts.If e v w) in
    let others = other_row (acts.If e v w) in
    ap (λ (xs : ActionTrees). trees.If (vexpr_tree e) xs (row_actions others.1) more) (action_row row.0 row.1 ∙ ap action_trees (items_hidden-the_row-Action-0 v))
    ∙ ap (λ (xs : ActionTrees). trees.If (vexpr_tree e) (action_trees v.items) xs more) (action_row others.0 others.1 ∙ ap action_trees (items_hidden-the_row-Action-0 w))

-- measures
abbrev mutual
  pub tree_size : VTree → ℕ
  tree_size (trees.Cell name index) = tree_size index + 1
  tree_size (trees.One one a) = tree_size a + 1
  tree_size (trees.Two operator a b) = tree_size a + tree_size b + 1
  tree_size (trees.Choose test this other) = tree_size test + tree_size this + tree_size other + 1
  tree_size (trees.Join parts) = trees_size parts + 1
  tree_size (trees.Repeat times a) = tree_size a + 1
  tree_size _ = 1

  pub trees_size : VTrees → ℕ
  trees_size trees.End = 0
  trees_size (trees.Then e rest) = tree_size e + trees_size rest + 1

abbrev pub actions_size : ActionTrees → ℕ
actions_size trees.Done = 0
actions_size (trees.Set name value rest) = actions_size rest + 1
actions_size (trees.Put name index value rest) = actions_size rest + 1
actions_size (trees.If test this other rest) = actions_size this + actions_size other + actions_size rest + 2

size_then : (a : Action) (more : ActionTrees) → actions_size (action_then a more) ≡ actions_size (action_then a trees.Done) + actions_size more
size_then (acts.Set name None value) more = omega arith
size_then (acts.Set name (Some index) value) more = omega arith
size_then (If' test p this q other) more = omega arith

pub action_at : (all : List Action) (i : ℕ) (a : Action) → i < length all → a ≡ get_or all i a → actions_size (action_then a trees.Done) ≤ actions_size (action_trees all)
action_at [] i a within is = absurd (omega arith)
action_at (x ∷ xs) zero a within is = omega (arith, size_then x (action_trees xs), ap (λ (y : Action). actions_size (action_then y trees.Done)) is)
action_at (x ∷ xs) (suc i) a within is = omega (arith, size_then x (action_trees xs), action_at xs i a (omega arith) is)
