-- Lists of actions.
use Rattle.std.proofs.Common.{◌≡◌, ℕ, suc, List, [], ◌∷◌, ◌++◌, Option, Some, None, max, refl, sym, ap, ◌∙◌, arith}
use Rattle.std.specs.Global.{Vec}
use mathlib.Core.Former.{Count}
use Rattle.lisa_words.specs.Steps.{◌>>=◌}
use Rattle.verilog_text.specs.Trees.{v_depth, actions_depth}
use Rattle.verilog_places.specs.declared.expressions.PlacedExpr.{PlacedExpr}
use Rattle.verilog_places.specs.declared.modules.PlacedAction.{PlacedAction, If', Row_of-PlacedAction, end_of-PlacedAction, more_of-PlacedAction, items-the_row-PlacedAction, items_hidden-the_row-PlacedAction-0}
use Rattle.verilog_places.specs.declared.modules.PlacedAction.TheVariants as acts
use Rattle.verilog_places.specs.Trees as placed
use Rattle.verilog_places.specs.Trees.{PlacedTree, PlacedActions, placed_tree, joined, action_then, placed_actions, row_actions, bare, bare_actions}
use Rattle.verilog_places.specs.Spelling.{PlacedToks}
use Rattle.verilog_action_reader.specs.Gives.{alone, with_front}

pub joined_done : (a : PlacedActions) → joined a placed.Done ≡ a
joined_done placed.Done = refl
joined_done (placed.Set name value rest) = ap (placed.Set name value) (joined_done rest)
joined_done (placed.Put name index value rest) = ap (placed.Put name index value) (joined_done rest)
joined_done (placed.If test this other rest) = ap (placed.If test this other) (joined_done rest)

pub joined_joined : (a b c : PlacedActions) → joined (joined a b) c ≡ joined a (joined b c)
joined_joined placed.Done b c = refl
joined_joined (placed.Set name value rest) b c = ap (placed.Set name value) (joined_joined rest b c)
joined_joined (placed.Put name index value rest) b c = ap (placed.Put name index value) (joined_joined rest b c)
joined_joined (placed.If test this other rest) b c = ap (placed.If test this other) (joined_joined rest b c)

pub joined_depth : (a b : PlacedActions) → actions_depth (bare_actions (joined a b)) ≡ max (actions_depth (bare_actions a)) (actions_depth (bare_actions b))
joined_depth placed.Done b = omega arith
joined_depth (placed.Set name value rest) b = omega (arith, joined_depth rest b)
joined_depth (placed.Put name index value rest) b = omega (arith, joined_depth rest b)
joined_depth (placed.If test this other rest) b = omega (arith, joined_depth rest b)

pub front_joined : (a b : PlacedActions) (r : Option (PlacedActions × PlacedToks)) → with_front (joined a b) r ≡ with_front a (with_front b r)
front_joined a b None = refl
front_joined a b (Some x) = ap (λ (all : PlacedActions). Some (all, x.1)) (joined_joined a b x.0)

pub front_done : (r : Option (PlacedActions × PlacedToks)) → with_front placed.Done r ≡ r
front_done None = refl
front_done (Some x) = refl

-- ---- the actions of a vector

then_joined : (x : PlacedAction) (a b : PlacedActions) → action_then x (joined a b) ≡ joined (action_then x a) b
then_joined (acts.Set name None value) a b = refl
then_joined (acts.Set name (Some index) value) a b = refl
then_joined (If' test p this q other) a b = refl

pub actions-push : (all : List PlacedAction) (x : PlacedAction) → placed_actions (all ++ x ∷ []) ≡ joined (placed_actions all) (alone x)
actions-push [] x = refl
actions-push (y ∷ all) x = ap (action_then y) (actions-push all x) ∙ then_joined y (placed_actions all) (alone x)

abbrev this_row : PlacedAction → (n : Count) × Row_of-PlacedAction n
this_row (If' test _ row _ other) = (_, row)
this_row _ = (_, end_of-PlacedAction)

abbrev other_row : PlacedAction → (n : Count) × Row_of-PlacedAction n
other_row (If' test _ row _ other) = (_, other)
other_row _ = (_, end_of-PlacedAction)

action_row : (n : Count) (row : Row_of-PlacedAction n) → row_actions row ≡ placed_actions (items-the_row-PlacedAction n row)
action_row n end_of-PlacedAction = refl
action_row n (more_of-PlacedAction a rest) = ap (action_then a) (action_row _ rest)

pub alone-If : (e : PlacedExpr) (v w : Vec PlacedAction) → alone (acts.If e v w) ≡ placed.If (placed_tree e) (placed_actions v.items) (placed_actions w.items) placed.Done
alone-If e v w =
    let row = this_row (acts.If e v w) in
    let others = other_row (acts.If e v w) in
    ap (λ (xs : PlacedActions). placed.If (placed_tree e) xs (row_actions others.1) placed.Done) (action_row row.0 row.1 ∙ ap placed_actions (items_hidden-the_row-PlacedAction-0 v))
    ∙ ap (λ (xs : PlacedActions). placed.If (placed_tree e) (placed_actions v.items) xs placed.Done) (action_row others.0 others.1 ∙ ap placed_actions (items_hidden-the_row-PlacedAction-0 w))
