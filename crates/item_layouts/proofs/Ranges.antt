-- Numbers in their order, one by one.
use Rattle.std.proofs.Common.{◌≡◌, ◌<◌, ◌≤◌, ◌+◌, ◌-◌, ◌++◌, ◌∙◌, ℕ, suc, Bool, true, false, cond, List, [], ◌∷◌, filter, map, refl, sym, ap, arith, append_assoc, append-nil}
use Rattle.std.specs.List.{range_with_len}
use Rattle.item_layouts.specs.declared.place.ItemPlace.{ItemPlace}
use Rattle.item_layouts.specs.declared.place.ItemPlace.TheVariants.{Bit}

-- the numbers from one on to an end
abbrev pub range : ℕ → ℕ → List ℕ
range from to = range_with_len from (to - from)

pub first_left : (k n : ℕ) → k < n → range k n ≡ k ∷ range (k + 1) n
first_left k n h = ap (range_with_len k) (let e : n - k ≡ suc (n - (k + 1)) = omega (arith, h) in e)

pub none_left : (k n : ℕ) → n ≤ k → range k n ≡ []
none_left k n h = ap (range_with_len k) (let e : n - k ≡ 0 = omega (arith, h) in e)

-- what was added, and what is left
pub regroup : {X : Type 0} (row more row' rest front all : List X) → row' ≡ row ++ more → row ++ all ≡ front → all ≡ more ++ rest → row' ++ rest ≡ front
regroup {X = X} row more row' rest front all e f g = ap (λ (z : List X). z ++ rest) e ∙ append_assoc row more rest ∙ ap (λ (z : List X). row ++ z) (sym g) ∙ f

-- nothing is left
pub ended : {X : Type 0} (row rest front : List X) → rest ≡ [] → row ++ rest ≡ front → row ≡ front
ended {X = X} row rest front e f = sym (append-nil row) ∙ ap (λ (z : List X). row ++ z) (sym e) ∙ f

-- one more bit, where the occurrence stands
pub one_bit : (stage : ℕ) (stands : ℕ → Bool) (row row' front : List ItemPlace) (k n : ℕ) → k < n → row ++ map (Bit stage) (filter stands (range k n)) ≡ front
    → row' ≡ row ++ cond (stands k) (Bit stage k ∷ []) [] → row' ++ map (Bit stage) (filter stands (range (k + 1) n)) ≡ front
one_bit stage stands row row' front k n h so_far added =
    regroup row (cond (stands k) (Bit stage k ∷ []) []) row' (map (Bit stage) (filter stands (range (k + 1) n))) front (map (Bit stage) (filter stands (range k n))) added so_far
    (ap (λ (l : List ℕ). map (Bit stage) (filter stands l)) (first_left k n h) ∙ by (stands k) (filter stands (range (k + 1) n)))
  where
    by : (b : Bool) (rest : List ℕ) → map (Bit stage) (cond b (k ∷ rest) rest) ≡ cond b (Bit stage k ∷ []) [] ++ map (Bit stage) rest
    by true rest = refl
    by false rest = refl
