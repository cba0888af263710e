-- Entries that were sorted by mask and pattern rise, since no two have both in common.
use Rattle.std.proofs.Common.{◌≡◌, ℕ, zero, suc, ◌+◌, ◌<◌, ◌≤◌, Bool, true, false, ◌&&◌, List, [], ◌∷◌, length, get_or, refl, sym, ap, ◌∙◌, subst, arith, inl, inr, ⊎_elim}
use Rattle.std.specs.Prelude.{nat_eq, AllPairs}
use Rattle.std.specs.List.{IsDistinct, AllByRecursion}
use Rattle.std.specs.Ordering.{nat_cmp, ordering_then, is_lt}
use Rattle.std.specs.declared.cmp.Ordering.{Ordering}
use Rattle.std.specs.declared.cmp.Ordering.TheVariants.{Less, Equal}
use Rattle.std.specs.List.Sorted.{IsSortedByKey, IsPermutation}
use Rattle.std.proofs.lemmas.Bool.{cases_eq, cases_order, lt-ltb, le-ltb, eq-eqb, ne_eqb, true≢false}
use Rattle.std.proofs.lemmas.Map.Keys.{IsDistinct-IsPermutation}
use Rattle.pattern_tables.specs.declared.bit_pattern.BitPattern.{BitPattern}
use Rattle.pattern_tables.specs.declared.entry.Entry.{Entry}
use Rattle.pattern_tables.specs.Patterns.{AreApart}
use Rattle.pattern_tables.specs.Entries.{plain_entries, IsBefore, mask, pattern}
use Rattle.pattern_tables.proofs.Entering.{same_key, entries_apart}

abbrev pub key_of : Entry → ℕ × ℕ
key_of e = (e.mask, e.pattern)

abbrev pub key_cmp : ℕ × ℕ → ℕ × ℕ → Ordering
key_cmp x y = ordering_then (nat_cmp x.0 y.0) (nat_cmp x.1 y.1)

cmp_less : (a b : ℕ) → a < b → nat_cmp a b ≡ Less
cmp_less a b h = rw (lt-ltb a b h) refl

cmp_equal : (a b : ℕ) → a ≡ b → nat_cmp a b ≡ Equal
cmp_equal a b h = rw (le-ltb a b (omega arith), eq-eqb a b h) refl

-- a pair that isn't less than another comes after it
not_less : (a b c d : ℕ) → is_lt (ordering_then (nat_cmp a b) (nat_cmp c d)) ≡ false → (b ≤ a) × (b ≡ a → d ≤ c)
not_less a b c d h = ⊎_elim
    (λ e. ⊎_elim
    (λ f. (omega arith, λ _. omega arith))
    (λ o. ⊎_elim
    (λ l. let t : is_lt (ordering_then (nat_cmp a b) (nat_cmp c d)) ≡ true = rw (cmp_equal a b e, cmp_less c d l) refl in absurd (true≢false (sym t ∙ h)))
    (λ g. (omega arith, λ _. omega arith)) o)
    (cases_order c d))
    (λ o. ⊎_elim
    (λ l. let t : is_lt (ordering_then (nat_cmp a b) (nat_cmp c d)) ≡ true = rw (cmp_less a b l) refl in absurd (true≢false (sym t ∙ h)))
    (λ g. (omega arith, λ e. absurd (omega arith))) o)
    (cases_order a b)

-- a relation that goes on from each element to the next, and from there on, holds of all pairs
pairs : {X : Type 0} (R : X → X → Type 0) (xs : List X) → ((a b c : X) → R a b → R b c → R a c) → ((k : ℕ) (d : X) → k + 1 < length xs → R (get_or xs k d) (get_or xs (k + 1) d))
    → (i j : ℕ) (d : X) → i < j → j < length xs → R (get_or xs i d) (get_or xs j d)
pairs R xs trans next i zero d less within = absurd (omega arith)
pairs R xs trans next i (suc j) d less within =
    let step : R (get_or xs j d) (get_or xs (suc j) d) = subst (λ k. R (get_or xs j d) (get_or xs k d)) {x = j + 1} {y = suc j} (omega arith) (next j d (omega arith)) in
    ⊎_elim
    (λ e. subst (λ k. R (get_or xs k d) (get_or xs (suc j) d)) (sym e) step)
    (λ o. ⊎_elim (λ l. trans (get_or xs i d) (get_or xs j d) (get_or xs (suc j) d) (pairs R xs trans next i j d l (omega arith)) step) (λ g. absurd (omega arith)) o)
    (cases_order i j)

follows : Entry → Entry → Type 0
follows a b = (a.mask ≤ b.mask) × (a.mask ≡ b.mask → a.pattern ≤ b.pattern)

follows_on : (a b c : Entry) → follows a b → follows b c → follows a c
unfolding follows
follows_on a b c p q = (omega arith, λ e. let same : a.mask ≡ b.mask = omega arith in let more : b.mask ≡ c.mask = omega arith in let x = p.1 same in let y = q.1 more in omega arith)

both_true : (a b : Bool) → a ≡ true → b ≡ true → (a && b) ≡ true
both_true true true e f = refl
both_true true false e f = f
both_true false b e f = e

before : (a b : Entry) → follows a b → same_key a b ≡ false → IsBefore a b
unfolding follows
before a b h apart = elim (cases_eq a.mask b.mask) [
  | inl e ↦ (elim (cases_eq a.pattern b.pattern) [
    | inl f ↦ absurd (true≢false (sym (both_true (nat_eq a.mask b.mask) (nat_eq a.pattern b.pattern) (eq-eqb a.mask b.mask e) (eq-eqb a.pattern b.pattern f)) ∙ apart))
    | inr ne ↦ (let le = h.1 e in pattern e (omega arith))
  ])
  | inr ne ↦ (let le = h.0 in mask (omega arith))
]

-- ---- keys that differ

same_comm : (a b : ℕ) → nat_eq a b ≡ nat_eq b a
same_comm a b = elim (cases_eq a b) [ inl e ↦ eq-eqb a b e ∙ sym (eq-eqb b a (sym e)) | inr ne ↦ ne_eqb a b ne ∙ sym (ne_eqb b a (λ e. ne (sym e))) ]

keys_flip : (a b : Entry) → same_key a b ≡ same_key b a
keys_flip a b = ap (λ (x : Bool). x && nat_eq a.pattern b.pattern) (same_comm a.mask b.mask) ∙ ap (λ (x : Bool). nat_eq b.mask a.mask && x) (same_comm a.pattern b.pattern)

at_recursion : {X : Type 0} (P : X → Type 0) (xs : List X) → AllByRecursion P xs → (j : ℕ) (d : X) → j < length xs → P (get_or xs j d)
at_recursion P [] all j d h = absurd (omega arith)
at_recursion P (x ∷ xs) all zero d h = all.0
at_recursion P (x ∷ xs) all (suc j) d h = at_recursion P xs all.1 j d (omega arith)

distinct_at : {X : Type 0} (e : X → X → Bool) (xs : List X) → IsDistinct e xs → (i j : ℕ) (d : X) → i < j → j < length xs → e (get_or xs i d) (get_or xs j d) ≡ false
unfolding IsDistinct
distinct_at e [] is i j d less h = absurd (omega arith)
distinct_at e (x ∷ xs) is i zero d less h = absurd (omega arith)
distinct_at e (x ∷ xs) is zero (suc j) d less h = at_recursion (λ y. e x y ≡ false) xs is.0 j d (omega arith)
distinct_at e (x ∷ xs) is (suc i) (suc j) d less h = distinct_at e xs is.1 i j d (omega arith) (omega arith)

pub sorted_rise : (ps : List BitPattern) (bs : List Bool) (es : List Entry) → AreApart ps bs → IsPermutation (plain_entries 0 ps bs) es → IsSortedByKey key_of key_cmp es → AllPairs IsBefore es
unfolding follows
sorted_rise ps bs es apart moved sorted =
    let all = pairs follows es follows_on (λ k d h. not_less _ _ _ _ (sorted k d (omega arith) (omega arith))) in
    let differ = IsDistinct-IsPermutation same_key keys_flip (plain_entries 0 ps bs) es moved (entries_apart 0 ps bs apart) in
    λ i j d less h. before (get_or es i d) (get_or es j d) (all i j d less h) (distinct_at same_key es differ i j d less h)
