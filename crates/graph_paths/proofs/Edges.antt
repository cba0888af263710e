-- One more edge.
use Rattle.std.proofs.Common.{◌≡◌, ◌<◌, ℕ, zero, suc, List, [], ◌∷◌, ◌++◌, true, ◌||◌, ◌&&◌, nat_eq, length, get_or, set, refl, ap, sym, ◌∙◌, arith, nat_lt, ◌≤◌, inl, inr}
use Rattle.std.specs.Global.{Vec}
use Rattle.std.proofs.Math.Dec.{eqb-suc-suc, eqb-suc-zero}
use Rattle.graph_paths.specs.Paths.{targets, is_in}
use Rattle.std.proofs.lemmas.Bool.{cases_Bool, lt-ltb}
use Rattle.graph_paths.proofs.Seen.{in-push}
use Rattle.graph_paths.proofs.Long.{within}

pub targets_pushed : (edges : List (Vec ℕ)) (from : ℕ) (old new : Vec ℕ) (to x y : ℕ) → from < length edges → old ≡ get_or edges from old → new.items ≡ old.items ++ to ∷ []
    → is_in y (targets (set edges from new) x) ≡ (is_in y (targets edges x) || (nat_eq x from && nat_eq y to))
targets_pushed [] from old new to x y h o n = absurd (omega arith)
targets_pushed (v ∷ edges) zero old new to zero y h o n = ap (is_in y) (n ∙ ap (λ (w : Vec ℕ). w.items ++ to ∷ []) o) ∙ in-push y v.items to ∙ grind arith
targets_pushed (v ∷ edges) zero old new to (suc x) y h o n = grind (arith, eqb-suc-zero)
targets_pushed (v ∷ edges) (suc from) old new to zero y h o n = grind (arith, eqb-suc-zero)
targets_pushed (v ∷ edges) (suc from) old new to (suc x) y h o n = targets_pushed edges from old new to x y (omega arith) o n ∙ ap (λ b. is_in y (targets edges x) || (b && nat_eq y to)) (sym (eqb-suc-suc x from))

pub targets_none : (edges : List (Vec ℕ)) (v : Vec ℕ) (x y : ℕ) → v.items ≡ [] → is_in y (targets (edges ++ v ∷ []) x) ≡ is_in y (targets edges x)
targets_none [] v zero y e = ap (is_in y) e
targets_none [] v (suc x) y e = refl
targets_none (w ∷ edges) v zero y e = refl
targets_none (w ∷ edges) v (suc x) y e = targets_none edges v x y e

pub all_rows : (next : List (Vec ℕ)) (x y n : ℕ) → length next ≤ n → (nat_lt y n && is_in x (targets next y)) ≡ is_in x (targets next y)
all_rows next x y n h = elim (cases_Bool (is_in x (targets next y))) [
  | inl on ↦ (let l = within next y x on in let t : nat_lt y n ≡ true = lt-ltb y n (omega (arith, l)) in grind arith)
  | inr off ↦ grind arith
]
