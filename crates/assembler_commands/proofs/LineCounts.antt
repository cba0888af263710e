-- A text has no more lines than bytes.
use Rattle.std.proofs.Common.{◌≡◌, ℕ, ◌+◌, ◌<◌, ◌≤◌, Bool, true, false, cond, List, [], ◌∷◌, length, refl, subst, sym, arith}
use Rattle.std.specs.Prelude.{◌==◌}
use Rattle.std.specs.List.{slice_split, onto_first}
use Rattle.std.specs.Str.Lines.{lines, lines_of_parts}
use Rattle.std.proofs.lemmas.List.Splits.{slice_split-cons_yes, slice_split-cons_no, length-slice_split}

one : (p : List ℕ) (none : Bool) → length (cond none [] (p ∷ [])) ≤ 1
one p true = omega arith
one p false = omega arith

-- a byte more in the first part
longer : (b : ℕ) (parts : List (List ℕ)) (n : ℕ) → length (lines_of_parts parts) ≤ n → length (lines_of_parts (onto_first b parts)) ≤ n + 1
longer b [] n h = omega (arith, one (b ∷ []) (length (b ∷ []) == 0))
longer b (q ∷ []) n h = omega (arith, one (b ∷ q) (length (b ∷ q) == 0))
longer b (q ∷ m ∷ more) n h = omega (arith, h)

-- an empty part before them
fresh : (parts : List (List ℕ)) (n : ℕ) → 0 < length parts → length (lines_of_parts parts) ≤ n → length (lines_of_parts ([] ∷ parts)) ≤ n + 1
fresh [] n some h = absurd (omega (arith, some))
fresh (p ∷ parts) n some h = omega (arith, h)

pub lines_at_most : (bytes : List ℕ) → length (lines bytes) ≤ length bytes
lines_at_most [] = omega arith
lines_at_most (b ∷ bytes) = by (b == 10) refl (lines_at_most bytes)
  where
    by : (t : Bool) → (b == 10) ≡ t → length (lines bytes) ≤ length bytes → length (lines (b ∷ bytes)) ≤ length (b ∷ bytes)
    by true e few =
        let h = fresh (slice_split (λ c. c == 10) bytes) (length bytes) (omega (arith, length-slice_split (λ c. c == 10) bytes)) few in
        subst (λ (all : List (List ℕ)). length (lines_of_parts all) ≤ length (b ∷ bytes)) (sym (slice_split-cons_yes (λ c. c == 10) b bytes e)) (omega (arith, h))
    by false e few =
        let h = longer b (slice_split (λ c. c == 10) bytes) (length bytes) few in
        subst (λ (all : List (List ℕ)). length (lines_of_parts all) ≤ length (b ∷ bytes)) (sym (slice_split-cons_no (λ c. c == 10) b bytes e)) (omega (arith, h))
