-- What the printer's loops keep, and the actions that it writes one behind the other.
use Rattle.std.proofs.Common.{◌≡◌, ℕ, suc, ◌+◌, ◌<◌, List, [], ◌∷◌, ◌++◌, length, drop, get_or, refl, sym, ap, ◌∙◌, append_assoc, add-one, None, Some, arith, drop-cons, zero, ◌≤◌}
use Rattle.verilog_text.specs.declared.tokens.VKeyword.TheVariants as words
use Rattle.verilog_text.specs.declared.expressions.VExpr.{VExpr}
use Rattle.verilog_text.specs.declared.modules.Action.{Action, If'}
use Rattle.verilog_text.specs.declared.modules.Action.TheVariants as acts
use Rattle.verilog_text.specs.Tokens.{VToks, Reserved}
use Rattle.verilog_text.specs.Trees.{ActionTrees, Done, vexpr_tree, vexpr_trees, action_then, action_trees}
use Rattle.verilog_text.specs.Printing.{action_tokens, else_tokens, expr_size, parts_size, actions_size}

-- actions that aren't none have an `else`
pub else_tokens-then : (a : Action) (more : ActionTrees) (ts : VToks) → else_tokens (action_then a more) ts ≡ Reserved words.Else ∷ Reserved words.Begin ∷ (ts ++ Reserved words.End ∷ [])
else_tokens-then (acts.Set name None value) more ts = refl
else_tokens-then (acts.Set name (Some index) value) more ts = refl
else_tokens-then (If' test p this q other) more ts = refl

pub else_tokens-some : (xs : List Action) (ts : VToks) → 0 < length xs → else_tokens (action_trees xs) ts ≡ Reserved words.Else ∷ Reserved words.Begin ∷ (ts ++ Reserved words.End ∷ [])
else_tokens-some [] ts some = absurd (omega arith)
else_tokens-some (a ∷ xs) ts some = else_tokens-then a (action_trees xs) ts

-- an action in front of others is written before them
pub action_tokens-then : (a : Action) (more : ActionTrees) → action_tokens (action_then a more) ≡ action_tokens (action_then a Done) ++ action_tokens more
action_tokens-then (acts.Set name None value) more = simp append_assoc
action_tokens-then (acts.Set name (Some index) value) more = simp append_assoc
action_tokens-then (If' test p this q other) more = simp append_assoc

-- what is left, where a piece of it was written
pub left_step : {A B : Type 0} (f : List A → List B) (one : A → List B) (out new start : List B) (xs : List A) (i : ℕ) (x d : A)
    → ((y : A) (ys : List A) → f (y ∷ ys) ≡ one y ++ f ys) → i < length xs → x ≡ get_or xs i d → new ≡ out ++ one x
    → out ++ f (drop i xs) ≡ start ++ f xs → new ++ f (drop (i + 1) xs) ≡ start ++ f xs
left_step {A = A} {B = B} f one out new start xs i x d cons less is written kept =
    let behind : drop i xs ≡ x ∷ drop (i + 1) xs = drop-cons xs i d less ∙ ap (λ (k : ℕ). get_or xs i d ∷ drop k xs) (sym (add-one i)) ∙ ap (λ (y : A). y ∷ drop (i + 1) xs) (sym is) in
    ap (λ (l : List B). l ++ f (drop (i + 1) xs)) written ∙ append_assoc out (one x) (f (drop (i + 1) xs))
    ∙ ap (λ (l : List B). out ++ l) (sym (ap f behind ∙ cons x (drop (i + 1) xs))) ∙ kept

-- an element is smaller than the list
pub part_below : (xs : List VExpr) (i : ℕ) (d : VExpr) → i < length xs → expr_size (vexpr_tree (get_or xs i d)) + 32 ≤ parts_size (vexpr_trees xs)
part_below [] i d less = absurd (omega arith)
part_below (x ∷ xs) zero d less = omega arith
part_below (x ∷ xs) (suc i) d less = omega (arith, part_below xs i d (omega arith))

pub actions_size-then : (a : Action) (more : ActionTrees) → actions_size (action_then a more) ≡ actions_size (action_then a Done) + actions_size more
actions_size-then (acts.Set name None value) more = omega arith
actions_size-then (acts.Set name (Some index) value) more = omega arith
actions_size-then (If' test p this q other) more = omega arith

pub action_below : (xs : List Action) (i : ℕ) (d : Action) → i < length xs → actions_size (action_then (get_or xs i d) Done) ≤ actions_size (action_trees xs)
action_below [] i d less = absurd (omega arith)
action_below (x ∷ xs) zero d less = omega (arith, actions_size-then x (action_trees xs))
action_below (x ∷ xs) (suc i) d less = omega (arith, action_below xs i d (omega arith), actions_size-then x (action_trees xs))
