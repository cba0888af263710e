-- Touches that are sorted by array and index, those of one cell as they came.
use Rattle.std.proofs.Common.{◌≡◌, ℕ, zero, suc, ◌+◌, ◌<◌, ◌≤◌, Bool, true, false, List, [], ◌∷◌, length, get_or, refl, sym, ap, ◌∙◌, subst, arith, ⊎_elim, Option, Some, None, Result, Ok, Err, cond}
use Rattle.std.specs.Prelude.{All, AllPairs, find, filter, not, nat_eq, nat_lt, ◌==◌, ◌&&◌, OnOk}
use Rattle.std.specs.Ordering.{nat_cmp, ordering_then, is_lt}
use Rattle.std.specs.declared.cmp.Ordering.{Ordering}
use Rattle.std.specs.declared.cmp.Ordering.TheVariants.{Less, Equal, Greater}
use Rattle.std.specs.List.Sorted.{IsSortedByKey, IsStableByKey, ties}
use Rattle.std.proofs.lemmas.Bool.{cases_Bool, cases_order, lt-ltb, le-ltb, eq-eqb, ne_eqb, true≢false}
use Rattle.lisa_engine.specs.Changes.{is_at, IsRow}
use Rattle.lisa_engine.specs.declared.parts.Touch.{Touch}

abbrev pub cell_of : Touch → ℕ × ℕ
cell_of touch = (touch.array, touch.index)

abbrev pub cell_cmp : ℕ × ℕ → ℕ × ℕ → Ordering
cell_cmp x y = ordering_then (nat_cmp x.0 y.0) (nat_cmp x.1 y.1)

cmp_less : (a b : ℕ) → a < b → nat_cmp a b ≡ Less
cmp_less a b h = rw (lt-ltb a b h) refl

cmp_equal : (a b : ℕ) → a ≡ b → nat_cmp a b ≡ Equal
cmp_equal a b h = rw (le-ltb a b (omega arith), eq-eqb a b h) refl

cmp_greater : (a b : ℕ) → b < a → nat_cmp a b ≡ Greater
cmp_greater a b h = rw (le-ltb a b (omega arith), ne_eqb a b (λ e. omega arith)) refl

-- a pair that isn't less than another comes after it
not_less : (a b c d : ℕ) → is_lt (ordering_then (nat_cmp a b) (nat_cmp c d)) ≡ false → (b ≤ a) × (b ≡ a → d ≤ c)
not_less a b c d h = ⊎_elim
    (λ e. ⊎_elim
    (λ f. (omega arith, λ _. omega arith))
    (λ o. ⊎_elim
    (λ l. let t : is_lt (ordering_then (nat_cmp a b) (nat_cmp c d)) ≡ true = rw (cmp_equal a b e, cmp_less c d l) refl in absurd (true≢false (sym t ∙ h)))
    (λ g. (omega arith, λ _. omega arith)) o)
    (cases_order c d))
    (λ o. ⊎_elim
    (λ l. let t : is_lt (ordering_then (nat_cmp a b) (nat_cmp c d)) ≡ true = rw (cmp_less a b l) refl in absurd (true≢false (sym t ∙ h)))
    (λ g. (omega arith, λ e. absurd (omega arith))) o)
    (cases_order a b)

-- a relation that goes on from each element to the next, and from there on, holds of all pairs
pairs : {X : Type 0} (R : X → X → Type 0) (xs : List X) → ((a b c : X) → R a b → R b c → R a c) → ((k : ℕ) (d : X) → k + 1 < length xs → R (get_or xs k d) (get_or xs (k + 1) d))
    → (i j : ℕ) (d : X) → i < j → j < length xs → R (get_or xs i d) (get_or xs j d)
pairs R xs trans next i zero d less within = absurd (omega arith)
pairs R xs trans next i (suc j) d less within =
    let step : R (get_or xs j d) (get_or xs (suc j) d) = subst (λ k. R (get_or xs j d) (get_or xs k d)) {x = j + 1} {y = suc j} (omega arith) (next j d (omega arith)) in
    ⊎_elim
    (λ e. subst (λ k. R (get_or xs k d) (get_or xs (suc j) d)) (sym e) step)
    (λ o. ⊎_elim (λ l. trans (get_or xs i d) (get_or xs j d) (get_or xs (suc j) d) (pairs R xs trans next i j d l (omega arith)) step) (λ g. absurd (omega arith)) o)
    (cases_order i j)

follows : Touch → Touch → Type 0
follows a b = (a.array ≤ b.array) × (a.array ≡ b.array → a.index ≤ b.index)

follows_on : (a b c : Touch) → follows a b → follows b c → follows a c
unfolding follows
follows_on a b c p q = (omega arith, λ e. let same : a.array ≡ b.array = omega arith in let more : b.array ≡ c.array = omega arith in let x = p.1 same in let y = q.1 more in omega arith)

pub is_row : (xs : List Touch) → IsSortedByKey cell_of cell_cmp xs → IsRow xs
unfolding follows
is_row xs sorted =
    let all = pairs follows xs follows_on (λ k d h. not_less _ _ _ _ (sorted k d (omega arith) (omega arith))) in
    record { arrays = λ i j d l h. (all i j d l h).0; indexes = λ i j d l h. (all i j d l h).1 }

tie : (a b c d : ℕ) → (not (is_lt (ordering_then (nat_cmp a b) (nat_cmp c d))) && not (is_lt (ordering_then (nat_cmp b a) (nat_cmp d c)))) ≡ (b == a && d == c)
tie a b c d = ⊎_elim
    (λ e. ⊎_elim
    (λ f. rw (cmp_equal a b e, cmp_equal b a (sym e), cmp_equal c d f, cmp_equal d c (sym f), eq-eqb b a (sym e), eq-eqb d c (sym f)) refl)
    (λ o. ⊎_elim
    (λ l. let ne : d ≡ c → ⊥ = λ f. omega arith in rw (cmp_equal a b e, cmp_less c d l, eq-eqb b a (sym e), ne_eqb d c ne) refl)
    (λ g. let ne : d ≡ c → ⊥ = λ f. omega arith in rw (cmp_equal a b e, cmp_equal b a (sym e), cmp_greater c d g, cmp_less d c g, eq-eqb b a (sym e), ne_eqb d c ne) refl) o)
    (cases_order c d))
    (λ o. ⊎_elim
    (λ l. let ne : b ≡ a → ⊥ = λ f. omega arith in rw (cmp_less a b l, ne_eqb b a ne) refl)
    (λ g. let ne : b ≡ a → ⊥ = λ f. omega arith in rw (cmp_greater a b g, cmp_less b a g, ne_eqb b a ne) refl) o)
    (cases_order a b)

-- a touch ties with those of its cell
ties_at : (array index before : ℕ) (touch : Touch) → ties (λ x y. is_lt (cell_cmp (cell_of x) (cell_of y))) (record { array = array; index = index; before = before }) touch ≡ is_at array index touch
ties_at array index before touch = tie array touch.array index touch.index

filter_same : {X : Type 0} (p q : X → Bool) (xs : List X) → ((x : X) → p x ≡ q x) → filter p xs ≡ filter q xs
filter_same p q [] same = refl
filter_same p q (x ∷ xs) same = (λ i. cond (same x i) (x ∷ filter_same p q xs same i) (filter_same p q xs same i))

first_of : {X : Type 0} → List X → Option X
first_of [] = None
first_of (x ∷ xs) = Some x

find_first : {X : Type 0} (p : X → Bool) (xs : List X) → find p xs ≡ first_of (filter p xs)
unfolding first_of
find_first p [] = refl
find_first p (x ∷ xs) = ⊎_elim (λ t. rw t refl) (λ f. rw f (find_first p xs)) (cases_Bool (p x))

pub same_found : (xs ys : List Touch) → IsStableByKey cell_of cell_cmp xs ys → (array index : ℕ) → find (is_at array index) ys ≡ find (is_at array index) xs
same_found xs ys stable array index =
    let at : Touch = record { array = array; index = index; before = 0 } in
    let tied = ties_at array index 0 in
    find_first (is_at array index) ys
    ∙ ap first_of (sym (filter_same _ (is_at array index) ys tied) ∙ stable at ∙ filter_same _ (is_at array index) xs tied)
    ∙ sym (find_first (is_at array index) xs)

pub if_ok : {T E : Type 0} {P : Type 0} (r : Result T E) → P → OnOk r P
if_ok (Ok x) h = h
if_ok (Err e) h = tt

pub on_ok : {T E : Type 0} {P Q : Type 0} (r : Result T E) → (P → Q) → OnOk r P → OnOk r Q
on_ok (Ok x) f h = f h
on_ok (Err e) f h = h
