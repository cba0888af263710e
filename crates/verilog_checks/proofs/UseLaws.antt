-- Uses one behind the other, and sizes for the recursion.
use Rattle.std.proofs.Common.{◌≡◌, ℕ, zero, suc, ◌+◌, ◌<◌, ◌≤◌, List, [], ◌∷◌, ◌++◌, length, drop, get_or, sym, ap, ◌∙◌, append_assoc, add-one, arith, drop-cons, None, Some}
use Rattle.std.proofs.lemmas.List.{map-append}
use Rattle.verilog_text.specs.Printing.{expr_size, parts_size, actions_size}
use Rattle.verilog_text.specs.Conditions.{Use, action_uses}
use Rattle.verilog_places.specs.declared.expressions.PlacedExpr.{PlacedExpr}
use Rattle.verilog_places.specs.declared.modules.PlacedAction.{PlacedAction, If'}
use Rattle.verilog_places.specs.declared.modules.PlacedAction.TheVariants as acts
use Rattle.verilog_places.specs.Trees.{PlacedActions, Done, placed_tree, placed_trees, action_then, placed_actions, bare, bare_parts, bare_actions}
use Rattle.verilog_checks.specs.Views.{behind}

-- what is left, where a piece of it was put
pub left_step : {A B : Type 0} (f : List A → List B) (one : A → List B) (out new start : List B) (xs : List A) (i : ℕ) (x d : A)
    → ((y : A) (ys : List A) → f (y ∷ ys) ≡ one y ++ f ys) → i < length xs → x ≡ get_or xs i d → new ≡ out ++ one x
    → out ++ f (drop i xs) ≡ start ++ f xs → new ++ f (drop (i + 1) xs) ≡ start ++ f xs
left_step {A = A} {B = B} f one out new start xs i x d cons less is put kept =
    let rest : drop i xs ≡ x ∷ drop (i + 1) xs = drop-cons xs i d less ∙ ap (λ (k : ℕ). get_or xs i d ∷ drop k xs) (sym (add-one i)) ∙ ap (λ (y : A). y ∷ drop (i + 1) xs) (sym is) in
    ap (λ (l : List B). l ++ f (drop (i + 1) xs)) put ∙ append_assoc out (one x) (f (drop (i + 1) xs))
    ∙ ap (λ (l : List B). out ++ l) (sym (ap f rest ∙ cons x (drop (i + 1) xs))) ∙ kept

action_uses-then : (a : PlacedAction) (more : PlacedActions) → action_uses (bare_actions (action_then a more)) ≡ action_uses (bare_actions (action_then a Done)) ++ action_uses (bare_actions more)
action_uses-then (acts.Set name None value) more = simp append_assoc
action_uses-then (acts.Set name (Some index) value) more = simp append_assoc
action_uses-then (If' test p this q other) more = simp append_assoc

pub behind-then : (n : ℕ) (a : PlacedAction) (rest : List PlacedAction)
    → behind n (action_uses (bare_actions (placed_actions (a ∷ rest)))) ≡ behind n (action_uses (bare_actions (action_then a Done))) ++ behind n (action_uses (bare_actions (placed_actions rest)))
behind-then n a rest =
    ap (behind n) (action_uses-then a (placed_actions rest))
    ∙ map-append (λ (u : Use). (n, u)) (action_uses (bare_actions (action_then a Done))) (action_uses (bare_actions (placed_actions rest)))

-- an element is smaller than the list
pub part_below : (xs : List PlacedExpr) (i : ℕ) (d : PlacedExpr) → i < length xs → expr_size (bare (placed_tree (get_or xs i d))) + 32 ≤ parts_size (bare_parts (placed_trees xs))
part_below [] i d less = absurd (omega arith)
part_below (x ∷ xs) zero d less = omega arith
part_below (x ∷ xs) (suc i) d less = omega (arith, part_below xs i d (omega arith))

actions_size-then : (a : PlacedAction) (more : PlacedActions) → actions_size (bare_actions (action_then a more)) ≡ actions_size (bare_actions (action_then a Done)) + actions_size (bare_actions more)
actions_size-then (acts.Set name None value) more = omega arith
actions_size-then (acts.Set name (Some index) value) more = omega arith
actions_size-then (If' test p this q other) more = omega arith

pub action_below : (xs : List PlacedAction) (i : ℕ) (d : PlacedAction) → i < length xs → actions_size (bare_actions (action_then (get_or xs i d) Done)) ≤ actions_size (bare_actions (placed_actions xs))
action_below [] i d less = absurd (omega arith)
action_below (x ∷ xs) zero d less = omega (arith, actions_size-then x (placed_actions xs))
action_below (x ∷ xs) (suc i) d less = omega (arith, action_below xs i d (omega arith), actions_size-then x (placed_actions xs))
