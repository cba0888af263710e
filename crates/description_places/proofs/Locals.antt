-- What a scope keeps.
use Rattle.std.proofs.Common.{◌≡◌, ◌≤◌, ℕ, Bool, true, false, cond, List, [], ◌∷◌, ◌++◌, Option, None, Some, refl, ap, sym, ◌∙◌, take, length, arith}
use Rattle.std.proofs.lemmas.List.{take-append-le}
use Rattle.std.proofs.lemmas.Grind.{common_steps}
use Rattle.std.specs.Option.{is_some}
use Rattle.std.specs.Map.{lookup}
use Rattle.lisa_tree.specs.declared.tokens.Shape.{Shape}
use Rattle.lisa_tree.specs.Statements.{HeadTree, StmtTree, Empty, Block, Assign, If, IfElse, While, For, Call, Stall, Flush, Execute, Shift}
use Rattle.lisa_tree.specs.Statements as stmts
use Rattle.name_tables.specs.NamedValues.{with_value}
use Rattle.description_places.specs.declared.scopes.Local.{Local}
use Rattle.lisa_tree.specs.Same.{same_name}
use Rattle.description_places.specs.Scopes.{Scope, local_named, entered}
use Rattle.description_places.specs.Places.{after, with_counted, with_counter}

-- ---- the map of a scope

pub looked_up : (n : List ℕ) (s : Scope) → lookup (same_name n) s ≡ local_named n s
looked_up n [] = refl
looked_up n (e ∷ s) = ap (cond (same_name n e.0) (Some e.1)) (looked_up n s)

pub new_entry : (s : Scope) (n : List ℕ) (l : Local) → is_some (local_named n s) ≡ false → with_value s n l ≡ s ++ (n, l) ∷ []
new_entry [] n l none = refl
new_entry (e ∷ s) n l none = by (same_name n e.0) refl none (new_entry s n l)
  where
    by : (b : Bool) → same_name n e.0 ≡ b → is_some (cond b (Some e.1) (local_named n s)) ≡ false → (is_some (local_named n s) ≡ false → with_value s n l ≡ s ++ (n, l) ∷ [])
        → with_value (e ∷ s) n l ≡ (e ∷ s) ++ (n, l) ∷ []
    by true is gone more = absurd (cc gone)
    by false is gone more = rw is (ap (λ (rest : Scope). e ∷ rest) (more gone))

pub entered_new : (s : Scope) (n : List ℕ) (l : Local) → is_some (local_named n s) ≡ false → with_value s n l ≡ entered s n l
entered_new s n l none = new_entry s n l none ∙ ap (λ (b : Bool). cond b s (s ++ (n, l) ∷ [])) (sym none)

pub entered_old : (s : Scope) (n : List ℕ) (l : Local) → is_some (local_named n s) ≡ true → s ≡ entered s n l
entered_old s n l some = ap (λ (b : Bool). cond b s (s ++ (n, l) ∷ [])) (sym some)

-- ---- what is entered is left again

pub kept_entered : (s0 s : Scope) (n : List ℕ) (l : Local) → take (length s0) s ≡ s0 → take (length s0) (entered s n l) ≡ s0
kept_entered s0 s n l h = by (is_some (local_named n s))
  where
    short : length s0 ≤ length s
    short = grind (arith, common_steps, ap length h)

    by : (b : Bool) → take (length s0) (cond b s (s ++ (n, l) ∷ [])) ≡ s0
    by true = h
    by false = take-append-le (length s0) s _ short ∙ h

whole : (s : Scope) → take (length s) s ≡ s
whole s = grind (arith, common_steps)

pub kept : (s0 s : Scope) (a : StmtTree) → take (length s0) s ≡ s0 → take (length s0) (after s a) ≡ s0
kept s0 s Empty h = h
kept s0 s (Block all) h = h
kept s0 s (stmts.Local shape n value) h = kept_entered s0 s n _ h
kept s0 s (Assign x e) h = h
kept s0 s (If e a) h = h
kept s0 s (IfElse e a b) h = h
kept s0 s (While e a) h = h
kept s0 s (For head a) h = h
kept s0 s (Call n) h = h
kept s0 s (Stall p n) h = h
kept s0 s (Flush p n) h = h
kept s0 s (Execute n) h = h
kept s0 s (Shift n) h = h

pub all_left : (s : Scope) (a : StmtTree) → take (length s) (after s a) ≡ s
all_left s a = kept s s a (whole s)

pub counter_left : (s : Scope) (head : HeadTree) → take (length s) (with_counter s head) ≡ s
counter_left s head = by head.shape
  where
    by : (shape : Option Shape) → take (length s) (with_counted s head.name shape) ≡ s
    by None = whole s
    by (Some shape) = kept_entered s s head.name _ (whole s)
