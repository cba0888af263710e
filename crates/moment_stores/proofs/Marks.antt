-- Marks in rows.
use Rattle.std.proofs.Common.{◌≡◌, ℕ, zero, suc, ◌+◌, ◌<◌, ◌≤◌, ◌||◌, ◌&&◌, Bool, true, false, List, [], ◌∷◌, length, map, get_or, set, nat_eq, refl, ap, ap₂, sym, ◌∙◌, subst, arith, ⊎_elim}
use Rattle.std.specs.Prelude.{replicate, ◌==◌}
use Rattle.std.proofs.lemmas.Bool.{cases_eq, eq-eqb, ne_eqb, true≢false}
use Rattle.std.proofs.lemmas.List.{get_or-set_same, get_or-set_other, get_or_past, length-replicate}
use Rattle.moment_stores.specs.Rows.{mark_at, unmarked, all_unmarked, all_places}

-- ---- one row

pub unmarked-le : (marks : List Bool) → unmarked marks ≤ length marks
unmarked-le [] = omega arith
unmarked-le (true ∷ rest) = omega (arith, unmarked-le rest)
unmarked-le (false ∷ rest) = omega (arith, unmarked-le rest)

pub unmarked-set : (marks : List Bool) (i : ℕ) → i < length marks → get_or marks i false ≡ false → unmarked (set marks i true) + 1 ≡ unmarked marks
unmarked-set [] i within free = absurd (omega arith)
unmarked-set (true ∷ rest) zero within free = absurd (true≢false free)
unmarked-set (false ∷ rest) zero within free = omega arith
unmarked-set (true ∷ rest) (suc i) within free = unmarked-set rest i (omega arith) free
unmarked-set (false ∷ rest) (suc i) within free = omega (arith, unmarked-set rest i (omega arith) free)

-- a place of a row of no marks
pub none_at : (count k : ℕ) → get_or (replicate count false) k false ≡ false
none_at zero k = get_or_past (replicate zero false) k false (omega (arith, length-replicate zero false))
none_at (suc count) zero = refl
none_at (suc count) (suc k) = none_at count k

-- a place in a row with one more mark
pub row_marked : (marks : List Bool) (i k : ℕ) → i < length marks → get_or (set marks i true) k false ≡ (nat_eq k i || get_or marks k false)
row_marked marks i k within =
    ⊎_elim
    (λ e. ap (λ (n : ℕ). get_or (set marks i true) n false) e ∙ get_or-set_same marks i true false within ∙ ap (λ (b : Bool). b || get_or marks k false) (sym (eq-eqb k i e)))
    (λ ne. get_or-set_other marks i k true false ne ∙ ap (λ (b : Bool). b || get_or marks k false) (sym (ne_eqb k i ne)))
    (cases_eq k i)

-- ---- rows

pub all_unmarked-le : (rows : List (List Bool)) → all_unmarked rows ≤ all_places rows
all_unmarked-le [] = omega arith
all_unmarked-le (row ∷ rest) = omega (arith, unmarked-le row, all_unmarked-le rest)

pub all_unmarked-set : (rows : List (List Bool)) (a i : ℕ) → a < length rows → i < length (get_or rows a []) → mark_at rows a i ≡ false
    → all_unmarked (set rows a (set (get_or rows a []) i true)) + 1 ≡ all_unmarked rows
all_unmarked-set [] a i in_rows in_row free = absurd (omega arith)
all_unmarked-set (row ∷ rest) zero i in_rows in_row free = omega (arith, unmarked-set row i in_row free)
all_unmarked-set (row ∷ rest) (suc a) i in_rows in_row free = omega (arith, all_unmarked-set rest a i (omega arith) in_row free)

-- as many places as other rows of the same lengths have
pub places_same : {S T : Type 0} (xs : List (List S)) (ys : List (List T)) → map length xs ≡ map length ys → all_places xs ≡ all_places ys
places_same [] [] same = refl
places_same [] (y ∷ ys) same = absurd (omega (arith, ap length same))
places_same (x ∷ xs) [] same = absurd (omega (arith, ap length same))
places_same (x ∷ xs) (y ∷ ys) same = ap₂ (λ (m n : ℕ). m + n) (ap (λ (ns : List ℕ). get_or ns 0 0) same) (places_same xs ys (ap tail same))
  where
    tail : List ℕ → List ℕ
    tail [] = []
    tail (n ∷ ns) = ns

module _ (rows : List (List Bool)) (a i : ℕ) (in_rows : a < length rows) (in_row : i < length (get_or rows a [])) where
  -- a place in rows with one more mark
  pub one_marked : (b k : ℕ) → mark_at (set rows a (set (get_or rows a []) i true)) b k ≡ ((a == b && i == k) || mark_at rows b k)
  one_marked b k =
      ⊎_elim
      (λ e. same_row b e)
      (λ ne. ap (λ (r : List Bool). get_or r k false) (get_or-set_other rows a b (set (get_or rows a []) i true) [] (λ e. ne (sym e)))
      ∙ ap (λ (t : Bool). (t && i == k) || mark_at rows b k) (sym (ne_eqb a b ne)))
      (cases_eq a b)
    where
      at_row : (k : ℕ) → get_or (set (get_or rows a []) i true) k false ≡ (i == k || mark_at rows a k)
      at_row k = ⊎_elim
          (λ e. ap (λ (n : ℕ). get_or (set (get_or rows a []) i true) n false) (sym e) ∙ get_or-set_same (get_or rows a []) i true false in_row ∙ ap (λ (t : Bool). t || mark_at rows a k) (sym (eq-eqb i k e)))
          (λ ne. get_or-set_other (get_or rows a []) i k true false (λ e. ne (sym e)) ∙ ap (λ (t : Bool). t || mark_at rows a k) (sym (ne_eqb i k ne)))
          (cases_eq i k)

      same_row : (b : ℕ) → a ≡ b → mark_at (set rows a (set (get_or rows a []) i true)) b k ≡ ((a == b && i == k) || mark_at rows b k)
      same_row b e =
          subst (λ (n : ℕ). mark_at (set rows a (set (get_or rows a []) i true)) n k ≡ ((a == n && i == k) || mark_at rows n k)) e
          (ap (λ (r : List Bool). get_or r k false) (get_or-set_same rows a (set (get_or rows a []) i true) [] in_rows) ∙ at_row k
          ∙ ap (λ (t : Bool). (t && i == k) || mark_at rows a k) (sym (eq-eqb a a refl)))
