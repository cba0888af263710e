-- Reading binary digits one by one.
use Rattle.std.proofs.Common.{◌≡◌, ℕ, ◌+◌, ◌-◌, ◌*◌, ◌^◌, ◌<◌, ◌≤◌, Bool, true, false, ltb, eqb, nat_lt, ◌==◌, ◌&&◌, ◌||◌, List, [], ◌∷◌, fold, IsTrue, length, drop, get_or, refl, sym, ap, ◌∙◌, arith, inl, inr}
use Rattle.std.specs.List.{list_all}
use Rattle.std.proofs.lemmas.Bool.{cases_lt, lt-ltb, le-ltb, ltb-true, and_parts}
use Rattle.lisa_tree.specs.Grammar.{is_binary, binary_value}

abbrev pub with_digit : ℕ → ℕ → ℕ
with_digit n d = 2 * n + (d - 48)

-- further digits make no number smaller
pub grows : (ds : List ℕ) (n : ℕ) → n ≤ fold with_digit n ds
grows [] n = omega arith
grows (d ∷ ds) n = omega (arith, grows ds (with_digit n d))

-- the digits so far and those that are left are the whole
pub record IsOnTheWay (digits : List ℕ) (value : ℕ) (left : List ℕ) : Type 0 where
  pub sum : fold with_digit value left ≡ binary_value digits
  pub rest : is_binary left ≡ is_binary digits

pub fits : (digits : List ℕ) (value : ℕ) (left : List ℕ) → IsOnTheWay digits value left → length left < 1 → value < 2 ^ 64 → IsTrue (is_binary digits && nat_lt (binary_value digits) (2 ^ 64)) × (value ≡ binary_value digits)
fits digits value [] way none lt = (rw (← way.rest, ← way.sum, lt-ltb value (2 ^ 64) lt) refl, way.sum)
fits digits value (d ∷ left) way none lt = absurd (omega arith)

too_great : (digits : List ℕ) (value d : ℕ) (left : List ℕ) → IsOnTheWay digits value (d ∷ left) → 2 ^ 64 ≤ with_digit value d → IsTrue (is_binary digits && nat_lt (binary_value digits) (2 ^ 64)) → ⊥
too_great digits value d left way le h =
    let both = and_parts (is_binary digits) (nat_lt (binary_value digits) (2 ^ 64)) h in
    omega (arith, ltb-true _ _ both.1, way.sum, grows left (with_digit value d))

no_digit : (digits : List ℕ) (value d : ℕ) (left : List ℕ) → IsOnTheWay digits value (d ∷ left) → (d == 48 || d == 49) ≡ false → IsTrue (is_binary digits && nat_lt (binary_value digits) (2 ^ 64)) → ⊥
no_digit digits value d left way e h =
    let both = and_parts (is_binary digits) (nat_lt (binary_value digits) (2 ^ 64)) h in
    let all : is_binary (d ∷ left) ≡ true = way.rest ∙ both.0 in
    let first = and_parts (d == 48 || d == 49) (is_binary left) all in
    absurd (let f = first.0 in cc)

refuse : (digits : List ℕ) (value d : ℕ) (left : List ℕ) → IsOnTheWay digits value (d ∷ left) → (IsTrue (d == 48 || d == 49) × (with_digit value d < 2 ^ 64) → ⊥) → IsTrue (is_binary digits && nat_lt (binary_value digits) (2 ^ 64)) → ⊥
refuse digits value d left way refused h = go (d == 48 || d == 49) refl
  where
    go : (b : Bool) → (d == 48 || d == 49) ≡ b → ⊥
    go false e = no_digit digits value d left way e h
    go true e =
        elim (cases_lt (with_digit value d) (2 ^ 64)) [
          | inl lt ↦ refused (e, lt)
          | inr ge ↦ too_great digits value d left way ge h
        ]

-- the next digit isn't binary, or the number doesn't fit
pub stops : (digits : List ℕ) (value : ℕ) (left : List ℕ) → IsOnTheWay digits value left → 1 ≤ length left → (IsTrue (get_or left 0 0 == 48 || get_or left 0 0 == 49) × (with_digit value (get_or left 0 0) < 2 ^ 64) → ⊥)
    → IsTrue (is_binary digits && nat_lt (binary_value digits) (2 ^ 64)) → ⊥
stops digits value [] way some refused = absurd (omega arith)
stops digits value (d ∷ left) way some refused = refuse digits value d left way refused

pub goes : (digits : List ℕ) (value : ℕ) (left : List ℕ) → IsOnTheWay digits value left → 1 ≤ length left → IsTrue (get_or left 0 0 == 48 || get_or left 0 0 == 49) → IsOnTheWay digits (with_digit value (get_or left 0 0)) (drop 1 left)
goes digits value [] way some e = absurd (omega arith)
goes digits value (d ∷ left) way some e = record { sum = way.sum; rest = ap (λ (b : Bool). b && is_binary left) (sym e) ∙ way.rest }
