-- What stands in a row.
use Rattle.std.proofs.Common.{◌≡◌, ◌<◌, ◌||◌, ℕ, zero, suc, List, [], ◌∷◌, Bool, true, false, nat_eq, length, get_or, ap, refl, arith, subst}
use Rattle.std.proofs.lemmas.Bool.{eq-eqb}
use Rattle.graph_paths.specs.Paths.{is_in}

either_left : (x y : Bool) → x ≡ true → (x || y) ≡ true
either_left x y e = ap (λ (b : Bool). b || y) e

either_right : (x y : Bool) → y ≡ true → (x || y) ≡ true
either_right true y e = refl
either_right false y e = e

inside : (nodes : List ℕ) (place node : ℕ) → place < length nodes → node ≡ get_or nodes place node → is_in node nodes ≡ true
inside [] place node h is = absurd (omega arith)
inside (x ∷ nodes) zero node h is = either_left (nat_eq node x) (is_in node nodes) (eq-eqb node x is)
inside (x ∷ nodes) (suc place) node h is = either_right (nat_eq node x) (is_in node nodes) (inside nodes place node (omega arith) is)

pub stands_there : (row : List ℕ) (place node x : ℕ) → place < length row → x ≡ get_or row place x → x ≡ node → is_in node row ≡ true
stands_there row place node x h is e = subst (λ (n : ℕ). is_in n row ≡ true) e (inside row place x h is)
