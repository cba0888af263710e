-- One more item of a list.
use Rattle.std.proofs.Common.{◌≡◌, ◌<◌, ◌≤◌, ◌+◌, ℕ, suc, List, [], ◌∷◌, ◌++◌, length, get_or, drop, drop-cons, refl, sym, ap, ◌∙◌, add-one, append_assoc, arith, zero}
use Rattle.std.specs.Global.{Vec}
use Rattle.graph_paths.specs.Paths.{targets, is_in}

pub one_more : {X : Type 0} (xs : List X) (i : ℕ) (x : X) → i < length xs → x ≡ get_or xs i x → drop i xs ≡ x ∷ drop (i + 1) xs
one_more {X = X} xs i x h is = drop-cons xs i x h ∙ ap (λ (y : X). y ∷ drop (suc i) xs) (sym is) ∙ ap (λ (n : ℕ). x ∷ drop n xs) (sym (add-one i))

-- what was added, and what is left
pub regroup : {X : Type 0} (row more row' rest front all : List X) → row' ≡ row ++ more → row ++ all ≡ front → all ≡ more ++ rest → row' ++ rest ≡ front
regroup {X = X} row more row' rest front all e f g = ap (λ (z : List X). z ++ rest) e ∙ append_assoc row more rest ∙ ap (λ (z : List X). row ++ z) (sym g) ∙ f

drop_past : {X : Type 0} (xs : List X) (i : ℕ) → length xs ≤ i → drop i xs ≡ []
drop_past [] zero past = refl
drop_past [] (suc i) past = refl
drop_past (x ∷ xs) zero past = absurd (omega arith)
drop_past (x ∷ xs) (suc i) past = drop_past xs i (omega arith)

-- a row without nodes
pub targets_none : (edges : List (Vec ℕ)) (v : Vec ℕ) (x y : ℕ) → v.items ≡ [] → is_in y (targets (edges ++ v ∷ []) x) ≡ is_in y (targets edges x)
targets_none [] v zero y e = ap (is_in y) e
targets_none [] v (suc x) y e = refl
targets_none (w ∷ edges) v zero y e = refl
targets_none (w ∷ edges) v (suc x) y e = targets_none edges v x y e
