-- Nodes that were seen.
use Rattle.std.proofs.Common.{◌≡◌, ℕ, zero, suc, ◌+◌, ◌<◌, ◌≤◌, List, [], ◌∷◌, ◌++◌, Bool, true, false, ◌||◌, ◌&&◌, not, cond, nat_eq, length, get_or, set, refl, ap, ◌∙◌, arith, ⊎_elim}
use Rattle.std.proofs.Math.Dec.{eqb-suc-suc, eqb-suc-zero}
use Rattle.std.proofs.lemmas.Bool.{cases_eq, eq-eqb, ne_eqb}
use Rattle.std.proofs.lemmas.List.Sums.{sum_by-set}
use Rattle.std.proofs.lemmas.List.Folds.{list_any-append}
use Rattle.graph_paths.specs.Paths.{saw, unseen, is_in}

pub saw_get : (seen : List Bool) (b : ℕ) → saw seen b ≡ get_or seen b false
saw_get [] b = refl
saw_get (s ∷ seen) zero = refl
saw_get (s ∷ seen) (suc b) = saw_get seen b

pub saw_at : (seen : List Bool) (k : ℕ) (d : Bool) → k < length seen → saw seen k ≡ get_or seen k d
saw_at [] k d h = absurd (omega arith)
saw_at (s ∷ seen) zero d h = refl
saw_at (s ∷ seen) (suc k) d h = saw_at seen k d (omega arith)

pub saw_past : (seen : List Bool) (k : ℕ) → length seen ≤ k → saw seen k ≡ false
saw_past [] k h = refl
saw_past (s ∷ seen) zero h = absurd (omega arith)
saw_past (s ∷ seen) (suc k) h = saw_past seen k (omega arith)

pub saw-set : (seen : List Bool) (k b : ℕ) → k < length seen → saw (set seen k true) b ≡ (saw seen b || nat_eq b k)
saw-set [] k b h = absurd (omega arith)
saw-set (s ∷ seen) zero zero h = grind arith
saw-set (s ∷ seen) zero (suc b) h = grind (arith, eqb-suc-zero)
saw-set (s ∷ seen) (suc k) zero h = grind (arith, eqb-suc-zero)
saw-set (s ∷ seen) (suc k) (suc b) h = rw (eqb-suc-suc b k) (saw-set seen k b (omega arith))

pub unseen-set : (seen : List Bool) (k : ℕ) → k < length seen → get_or seen k false ≡ false → unseen (set seen k true) + 1 ≡ unseen seen
unseen-set seen k h off =
    let e = sum_by-set (λ (s : Bool). cond s 0 1) seen k true false h in
    let z : ◌≡◌ {A = ℕ} (cond (get_or seen k false) 0 1) 1 = ap (λ (s : Bool). cond s 0 1) off in
    omega (arith, e, z)

pub in-push : (b : ℕ) (xs : List ℕ) (x : ℕ) → is_in b (xs ++ x ∷ []) ≡ (is_in b xs || nat_eq b x)
in-push b xs x = grind (arith, list_any-append (nat_eq b) xs (x ∷ []))

pub seen_twice : (seen : List Bool) (k b : ℕ) → saw seen k ≡ true → saw seen b ≡ (saw seen b || nat_eq b k)
seen_twice seen k b h = ⊎_elim (λ e. at e) (λ ne. let t : nat_eq b k ≡ false = ne_eqb b k ne in grind arith) (cases_eq b k)
  where
    at : b ≡ k → saw seen b ≡ (saw seen b || nat_eq b k)
    at e = let s : saw seen b ≡ true = ap (saw seen) e ∙ h in grind arith

pub not_twice : (seen : List Bool) (work : List ℕ) (k b : ℕ) → saw seen k ≡ true → is_in b work ≡ (is_in b work || (nat_eq b k && not (saw seen b)))
not_twice seen work k b h = ⊎_elim (λ e. at e) (λ ne. let t : nat_eq b k ≡ false = ne_eqb b k ne in grind arith) (cases_eq b k)
  where
    at : b ≡ k → is_in b work ≡ (is_in b work || (nat_eq b k && not (saw seen b)))
    at e = let s : saw seen b ≡ true = ap (saw seen) e ∙ h in grind arith

pub pushed : (seen : List Bool) (work : List ℕ) (k b : ℕ) → saw seen k ≡ false → is_in b (work ++ k ∷ []) ≡ (is_in b work || (nat_eq b k && not (saw seen b)))
pushed seen work k b h = in-push b work k ∙ ⊎_elim (λ e. at e) (λ ne. let t : nat_eq b k ≡ false = ne_eqb b k ne in grind arith) (cases_eq b k)
  where
    at : b ≡ k → (is_in b work || nat_eq b k) ≡ (is_in b work || (nat_eq b k && not (saw seen b)))
    at e = let s : saw seen b ≡ false = ap (saw seen) e ∙ h in grind arith

pub in_at : (xs : List ℕ) (i : ℕ) → i < length xs → is_in (get_or xs i 0) xs ≡ true
in_at [] i h = absurd (omega arith)
in_at (x ∷ xs) zero h = let e : nat_eq x x ≡ true = eq-eqb x x refl in grind arith
in_at (x ∷ xs) (suc i) h = let e = in_at xs i (omega arith) in grind arith
