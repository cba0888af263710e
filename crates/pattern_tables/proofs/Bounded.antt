-- The looks at all tables are no more than the bound that the masks give.
use Rattle.std.proofs.Common.{◌≡◌, ℕ, suc, ◌+◌, ◌^◌, ◌<◌, ◌≤◌, Bool, true, false, ◌||◌, List, [], ◌∷◌, ◌++◌, length, map, refl, sym, ap, ap₂, ◌∙◌, subst, arith, inl, inr, cond}
use Rattle.std.specs.Prelude.{nat_eq, if◌then◌else◌}
use Rattle.std.specs.List.{flat_map, sum_by, count_by, list_any}
use Rattle.std.specs.Int.Digits.{digits_of}
use Rattle.std.proofs.lemmas.Int.Digits.{number_digits_of, number_lt, all_below_base_digits_of, length-digits_of-le}
use Rattle.std.proofs.lemmas.Bool.{cases_Bool, cases_eq, eqb-true, eq-eqb}
use Rattle.std.proofs.lemmas.List.Sorted.{sum_by-IsPermutation, IsPermutation-sym}
use Rattle.std.proofs.lemmas.List.Sums.{sum_by-cons, sum_by-append}
use Rattle.instruction_trees.specs.Trees.{In, here, there}
use Rattle.instruction_trees.specs.Forms.{Distinct, none, more}
use Rattle.instruction_trees.proofs.Listing.{in_append, in_left, in_right, in_map, from_map, in_flat}
use Rattle.pattern_tables.specs.declared.bit_pattern.BitPattern.{BitPattern}
use Rattle.pattern_tables.specs.declared.entry.Entry.{Entry}
use Rattle.pattern_tables.specs.declared.table.PatternTable.{PatternTable}
use Rattle.pattern_tables.specs.Entries.{entry, plain_entries}
use Rattle.pattern_tables.specs.Tables.{with_mask, entries_of, masks_of, HoldPlain}
use Rattle.pattern_tables.specs.Probes.{plain_masks, once, look_ups, probe_bound}
use Rattle.pattern_tables.proofs.Decoding.{in_permutation, table_looks, mask_in, size_of}

-- ---- sums

sum_by-map : {X Y : Type 0} (f : Y → ℕ) (g : X → Y) (xs : List X) → sum_by f (map g xs) ≡ sum_by (λ x. f (g x)) xs
sum_by-map f g [] = refl
sum_by-map f g (x ∷ xs) = sum_by-cons f (g x) (map g xs) ∙ ap (λ (n : ℕ). f (g x) + n) (sum_by-map f g xs) ∙ sym (sum_by-cons (λ y. f (g y)) x xs)

sum_by-below : {X : Type 0} (f g : X → ℕ) (xs : List X) → ((x : X) → In x xs → f x ≤ g x) → sum_by f xs ≤ sum_by g xs
sum_by-below f g [] all = omega arith
sum_by-below f g (x ∷ xs) all =
    let a = sum_by-cons f x xs in
    let b = sum_by-cons g x xs in
    let c = all x here in
    let d = sum_by-below f g xs (λ y i. all y (there i)) in omega arith

split_at : {X : Type 0} {x : X} {ys : List X} → In x ys → (as' : List X) × (bs : List X) × (ys ≡ as' ++ x ∷ bs)
split_at (here {xs = xs}) = ([], xs, refl)
split_at (there {y = y} i) = let t = split_at i in (y ∷ t.0, t.1, ap (λ l. y ∷ l) t.2)

without : {X : Type 0} {y x : X} (as' bs : List X) → In y (as' ++ x ∷ bs) → (y ≡ x → ⊥) → In y (as' ++ bs)
without {y = y} {x = x} as' bs i differ = elim (in_append as' (x ∷ bs) i) [
  | inl l ↦ in_left bs l
  | inr r ↦ in_right as' (tail_of r differ)
]
  where
    tail_of : {X : Type 0} {y x : X} {bs : List X} → In y (x ∷ bs) → (y ≡ x → ⊥) → In y bs
    tail_of here differ = absurd (differ refl)
    tail_of (there i) differ = i

-- a list without repetition, all of it in another one
pub sum_by-within : {X : Type 0} (g : X → ℕ) {xs : List X} → Distinct xs → (ys : List X) → ((x : X) → In x xs → In x ys) → sum_by g xs ≤ sum_by g ys
sum_by-within g none ys all = omega arith
sum_by-within {X = X} g (more {x = x} {xs = xs} out d) ys all =
    let s = split_at (all x here) in
    let inner = sum_by-within g d (s.0 ++ s.1) (λ y i. without s.0 s.1 (subst (λ (l : List X). In y l) s.2 (all y (there i))) (λ e. out (subst (λ z. In z xs) e i))) in
    let a = sum_by-cons g x xs in
    let b : sum_by g ys ≡ sum_by g (s.0 ++ x ∷ s.1) = ap (sum_by g) s.2 in
    let c = sum_by-append g s.0 (x ∷ s.1) in
    let e = sum_by-cons g x s.1 in
    let f = sum_by-append g s.0 s.1 in omega arith

-- ---- each number once

any_in : (m : ℕ) (ms : List ℕ) → list_any (nat_eq m) ms ≡ true → In m ms
any_in m [] e = absurd cc
any_in m (x ∷ ms) e = elim (cases_eq m x) [
  | inl same ↦ subst (λ (k : ℕ). In k (x ∷ ms)) (sym same) here
  | inr differ ↦ there (any_in m ms (skipped (nat_eq m x) (list_any (nat_eq m) ms) (λ t. differ (eqb-true m x t)) e))
]
  where
    skipped : (a b : Bool) → (a ≡ true → ⊥) → (a || b) ≡ true → b ≡ true
    skipped true b f e = absurd (f refl)
    skipped false b f e = e

pub in_once : (ms : List ℕ) (m : ℕ) → In m ms → In m (once ms)
in_once [] m i = elim i [ ]
in_once (x ∷ ms) m i = elim (cases_Bool (list_any (nat_eq x) ms)) [
  | inl t ↦ subst (λ (b : Bool). In m (if b then once ms else (x ∷ once ms))) (sym t) (in_once ms m (elim (in_append (x ∷ []) ms i) [ inl l ↦ head_of l (any_in x ms t) | inr r ↦ r ]))
  | inr f ↦ subst (λ (b : Bool). In m (if b then once ms else (x ∷ once ms))) (sym f) (elim (in_append (x ∷ []) ms i) [ inl l ↦ head_of l here | inr r ↦ there (in_once ms m r) ])
]
  where
    head_of : {m x : ℕ} {ms : List ℕ} → In m (x ∷ []) → In x ms → In m ms
    head_of here i = i
    head_of (there j) i = elim j [ ]

-- ---- the number of binary digits grows with the number

pub looks_grow : (m n : ℕ) → m ≤ n → look_ups m ≤ look_ups n
unfolding look_ups
looks_grow m n le =
    let below : n < 2 ^ length (digits_of 2 n) = subst (λ (k : ℕ). k < 2 ^ length (digits_of 2 n)) (number_digits_of 2 n (omega arith)) (number_lt 2 (digits_of 2 n) (all_below_base_digits_of 2 n (omega arith))) in
    let fewer = length-digits_of-le 2 (length (digits_of 2 n)) m (omega arith) (omega arith) in omega arith

-- ---- how many entries a table has

pub masks_are : (n : ℕ) (ps : List BitPattern) (bs : List Bool) → plain_masks ps bs ≡ map (λ (e : Entry). e.mask) (plain_entries n ps bs)
masks_are n [] bs = refl
masks_are n (p ∷ ps) [] = refl
masks_are n (p ∷ ps) (true ∷ bs) = ap (λ (l : List ℕ). p.mask ∷ l) (masks_are (suc n) ps bs)
masks_are n (p ∷ ps) (false ∷ bs) = masks_are (suc n) ps bs

abbrev has_mask : ℕ → Entry → ℕ
has_mask m e = cond (nat_eq m e.mask) 1 0

table_count : (m : ℕ) (ps ks : List ℕ) → sum_by (has_mask m) (with_mask m ps ks) ≡ length (with_mask m ps ks)
table_count m [] ks = refl
table_count m (p ∷ ps) [] = refl
table_count m (p ∷ ps) (k ∷ ks) =
    sum_by-cons (has_mask m) (entry m p k) (with_mask m ps ks) ∙ ap₂ (λ (a b : ℕ). a + b) (ap (λ (b : Bool). cond b 1 0) (eq-eqb m m refl)) (table_count m ps ks) ∙ omega arith

part_of : {X : Type 0} (f : Entry → ℕ) (h : X → List Entry) {x : X} {xs : List X} → In x xs → sum_by f (h x) ≤ sum_by f (flat_map h xs)
part_of f h {x = x} (here {xs = xs}) = let e = sum_by-append f (h x) (flat_map h xs) in omega arith
part_of f h {x = x} (there {y = y} {xs = xs} i) = let e = sum_by-append f (h y) (flat_map h xs) in let r = part_of f h i in omega arith

module _ (patterns : List BitPattern) (plain : List Bool) (tables : List PatternTable) (hold : HoldPlain patterns plain tables) where
  counted : (m : ℕ) → count_by (nat_eq m) (plain_masks patterns plain) ≡ sum_by (has_mask m) (flat_map entries_of tables)
  counted m =
      ap (count_by (nat_eq m)) (masks_are 0 patterns plain)
      ∙ sum_by-map (λ (x : ℕ). cond (nat_eq m x) 1 0) (λ (e : Entry). e.mask) (plain_entries 0 patterns plain)
      ∙ sym (sum_by-IsPermutation (has_mask m) (plain_entries 0 patterns plain) (flat_map entries_of tables) hold.entries)

  table_below : (t : PatternTable) → In t tables → table_looks t ≤ look_ups (count_by (nat_eq t.mask) (plain_masks patterns plain))
  table_below t i =
      let own = table_count t.mask t.patterns.items t.forms.items in
      let whole = part_of (has_mask t.mask) entries_of i in
      let all = counted t.mask in
      looks_grow (length (entries_of t)) (count_by (nat_eq t.mask) (plain_masks patterns plain)) (omega arith)

  mask_used : (t : PatternTable) → In t tables → In t.mask (plain_masks patterns plain)
  mask_used t i =
      let own = mask_in t.mask t.patterns.items t.forms.items 0 _ t.level (subst (λ (n : ℕ). 0 < n) (size_of t) (hold.used t i)) refl in
      let e = in_permutation (flat_map entries_of tables) (plain_entries 0 patterns plain) _ (IsPermutation-sym (plain_entries 0 patterns plain) (flat_map entries_of tables) hold.entries) (in_flat entries_of i own) in
      subst (λ (l : List ℕ). In t.mask l) (sym (masks_are 0 patterns plain)) (in_map (λ (x : Entry). x.mask) e)

  pub looks_bounded : sum_by table_looks tables ≤ probe_bound patterns plain
  looks_bounded =
      let ms = plain_masks patterns plain in
      let most : ℕ → ℕ = λ m. look_ups (count_by (nat_eq m) ms) in
      let a = sum_by-below table_looks (λ t. most t.mask) tables table_below in
      let b : sum_by most (masks_of tables) ≡ sum_by (λ t. most t.mask) tables = sum_by-map most (λ (t : PatternTable). t.mask) tables in
      let c : sum_by most (masks_of tables) ≤ sum_by most (once ms) =
      sum_by-within most hold.masks (once ms) (λ m i. let t = from_map (λ (u : PatternTable). u.mask) tables i in subst (λ (k : ℕ). In k (once ms)) (sym t.2) (in_once ms t.0.mask (mask_used t.0 t.1))) in
      omega arith
