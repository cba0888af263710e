-- Decoding table by table.
use Rattle.std.proofs.Common.{◌≡◌, ℕ, zero, suc, ◌+◌, ◌-◌, ◌*◌, ◌^◌, ◌<◌, ◌≤◌, Bool, List, [], ◌∷◌, length, take, refl, sym, ap, ◌∙◌, subst, arith, inl, inr, Option, Some, None}
use Rattle.std.specs.Prelude.{slice_index, slice_index_or, bit_and, IfNone}
use Rattle.std.specs.List.{flat_map, sum_by}
use Rattle.std.specs.List.Sorted.{IsPermutation}
use Rattle.std.specs.Int.Digits.{digits_of}
use Rattle.std.proofs.lemmas.Int.Digits.{number_digits_of, number_lt, all_below_base_digits_of}
use Rattle.std.proofs.lemmas.Bool.{cases_lt}
use Rattle.std.proofs.lemmas.List.Sorted.{Contains-permutation, IsPermutation-sym}
use Rattle.std.proofs.lemmas.List.Sums.{sum_by_more_le, sum_by-take-le}
use Rattle.std.proofs.lemmas.Nat.{pow-add}
use Rattle.std.proofs.Math.Pow.{pow_mono}
use Rattle.instruction_trees.specs.Bits.{Frame, Has}
use Rattle.instruction_trees.specs.Trees.{In, here, there}
use Rattle.instruction_trees.proofs.Listing.{in_flat, from_flat}
use Rattle.pattern_tables.specs.declared.bit_pattern.BitPattern.{BitPattern}
use Rattle.pattern_tables.specs.declared.entry.Entry.{Entry}
use Rattle.pattern_tables.specs.declared.table.PatternTable.{PatternTable}
use Rattle.pattern_tables.specs.Patterns.{AllStand, frame_at, IsPlain}
use Rattle.pattern_tables.specs.Entries.{entry, plain_entries}
use Rattle.pattern_tables.specs.Tables.{with_mask, entries_of, HoldPlain}
use Rattle.pattern_tables.specs.Probes.{look_ups}
use Rattle.pattern_tables.proofs.Masks.{stands_has, has_stands}
use Rattle.pattern_tables.proofs.Entering.{entry_of, has_entry}

-- ---- being in a list, and at a place of it

pub in_place : {X : Type 0} {x : X} {xs : List X} → In x xs → (k : ℕ) × (k < length xs) × ((d : X) → slice_index_or xs k d ≡ x)
in_place here = (0, omega arith, λ d. refl)
in_place (there i) = let t = in_place i in (suc t.0, omega (arith, t.1), t.2)

pub place_in : {X : Type 0} (xs : List X) (k : ℕ) (d : X) → k < length xs → In (slice_index_or xs k d) xs
place_in [] k d h = absurd (omega arith)
place_in (x ∷ xs) zero d h = here
place_in (x ∷ xs) (suc k) d h = there (place_in xs k d (omega arith))

pub in_permutation : {X : Type 0} (xs ys : List X) (x : X) → IsPermutation xs ys → In x xs → In x ys
in_permutation xs ys x moved i =
    let at = in_place i in
    let c = Contains-permutation xs ys x moved (at.0, at.1, at.2 x) in
    subst (λ y. In y ys) c.2 (place_in ys c.0 x c.1)

-- ---- entries of one table

pub in_mask : (m : ℕ) (ps ks : List ℕ) (e : Entry) → In e (with_mask m ps ks) → (e.mask ≡ m) × (i : ℕ) × (i < length ps) × (slice_index ps i ≡ e.pattern)
in_mask m [] ks e i = elim i [ ]
in_mask m (p ∷ ps) [] e i = elim i [ ]
in_mask m (p ∷ ps) (k ∷ ks) e here = (refl, 0, omega arith, refl)
in_mask m (p ∷ ps) (k ∷ ks) e (there i) = let t = in_mask m ps ks e i in (t.0, suc t.1, omega (arith, t.2), t.3)

pub mask_in : (m : ℕ) (ps ks : List ℕ) (i p : ℕ) → length ks ≡ length ps → i < length ps → slice_index ps i ≡ p → In (entry m p (slice_index ks i)) (with_mask m ps ks)
mask_in m [] ks i p l h e = absurd (omega arith)
mask_in m (q ∷ ps) [] i p l h e = absurd cc
mask_in m (q ∷ ps) (k ∷ ks) zero p l h e = subst (λ (r : ℕ). In (entry m r k) (with_mask m (q ∷ ps) (k ∷ ks))) e here
mask_in m (q ∷ ps) (k ∷ ks) (suc i) p l h e = there (mask_in m ps ks i p (omega arith) (omega arith) e)

pub length-with_mask : (m : ℕ) (ps ks : List ℕ) → length ks ≡ length ps → length (with_mask m ps ks) ≡ length ps
length-with_mask m [] ks l = refl
length-with_mask m (p ∷ ps) [] l = absurd cc
length-with_mask m (p ∷ ps) (k ∷ ks) l = ap suc (length-with_mask m ps ks (omega arith))

pub entry_at : (m : ℕ) (ps ks : List ℕ) (i : ℕ) (d : Entry) → length ks ≡ length ps → i < length ps → slice_index_or (with_mask m ps ks) i d ≡ entry m (slice_index ps i) (slice_index ks i)
entry_at m [] ks i d l h = absurd (omega arith)
entry_at m (p ∷ ps) [] i d l h = absurd cc
entry_at m (p ∷ ps) (k ∷ ks) zero d l h = refl
entry_at m (p ∷ ps) (k ∷ ks) (suc i) d l h = entry_at m ps ks i d (omega arith) (omega arith)

pub no_entry : Entry
no_entry = record { mask = 0; pattern = 0; form = 0 }

-- its size, and the pattern and the form at a place
pub size_of : (t : PatternTable) → length (entries_of t) ≡ length t.patterns.items
size_of t = length-with_mask t.mask t.patterns.items t.forms.items t.level

pub pattern_at : (t : PatternTable) (i : ℕ) (d : Entry) → i < length (entries_of t) → (slice_index_or (entries_of t) i d).pattern ≡ slice_index t.patterns.items i
pattern_at t i d h = ap (λ (e : Entry). e.pattern) (entry_at t.mask t.patterns.items t.forms.items i d t.level (subst (λ (n : ℕ). i < n) (size_of t) h))

pub is_pattern : (t : PatternTable) (i p : ℕ) → i < length t.patterns.items → ((d : Entry) → p ≡ (slice_index_or (entries_of t) i d).pattern) → slice_index t.patterns.items i ≡ p
is_pattern t i p h is = sym (is no_entry ∙ pattern_at t i no_entry (subst (λ (n : ℕ). i < n) (sym (size_of t)) h))

pub form_at : (t : PatternTable) (i : ℕ) (d : Entry) → i < length (entries_of t) → (slice_index_or (entries_of t) i d).form ≡ slice_index t.forms.items i
form_at t i d h = ap (λ (e : Entry). e.form) (entry_at t.mask t.patterns.items t.forms.items i d t.level (subst (λ (n : ℕ). i < n) (size_of t) h))

pub no_entry_in : (t : PatternTable) (w : ℕ) → ((i : ℕ) → i < length t.patterns.items → slice_index t.patterns.items i ≡ bit_and w t.mask → ⊥)
    → (k : ℕ) → In (entry t.mask (bit_and w t.mask) k) (entries_of t) → ⊥
no_entry_in t w absent k i = let at = in_mask t.mask t.patterns.items t.forms.items (entry t.mask (bit_and w t.mask) k) i in absent at.1 at.2 at.3

pub if_none : {A : Type 0} {P : Type 0} (r : Option A) → P → IfNone r P
if_none None p = p
if_none (Some x) p = tt

-- ---- how many looks at one table

few : (n p : ℕ) → 2 ^ p ≤ 2 * n + 1 → p ≤ length (digits_of 2 n) + 1
few n p h =
    let below : n < 2 ^ length (digits_of 2 n) = subst (λ (k : ℕ). k < 2 ^ length (digits_of 2 n)) (number_digits_of 2 n (omega arith)) (number_lt 2 (digits_of 2 n) (all_below_base_digits_of 2 n (omega arith))) in
    elim (cases_lt (length (digits_of 2 n) + 1) p) [
      | inl lt ↦ (let grows : 2 ^ (length (digits_of 2 n) + 2) ≤ 2 ^ p = pow_mono (omega arith) in let twice : 2 ^ (length (digits_of 2 n) + 2) ≡ 2 ^ length (digits_of 2 n) * 4 = pow-add 2 (length (digits_of 2 n)) 2 in absurd (omega arith))
      | inr le ↦ le
    ]

cheap : (n before now : ℕ) → before ≤ now → 2 ^ (now - before) ≤ 2 * n + 1 → now ≤ before + look_ups n
unfolding look_ups
cheap n before now le h = let p = few n (now - before) h in omega arith

abbrev pub table_looks : PatternTable → ℕ
table_looks t = look_ups (length (entries_of t))

pub cheap_table : (t : PatternTable) (before now : ℕ) → before ≤ now → 2 ^ (now - before) ≤ 2 * length t.patterns.items + 1 → now ≤ before + table_looks t
cheap_table t before now le h = cheap (length (entries_of t)) before now le (subst (λ (n : ℕ). 2 ^ (now - before) ≤ 2 * n + 1) (sym (size_of t)) h)

-- ---- the loop

pub record NoneYet (w : ℕ) (tables : List PatternTable) (i before now : ℕ) : Type 0 where
  pub absent : (j : ℕ) (d : PatternTable) → j < i → (k : ℕ) → In (entry (slice_index_or tables j d).mask (bit_and w (slice_index_or tables j d).mask) k) (entries_of (slice_index_or tables j d)) → ⊥
  pub cost : now ≤ before + sum_by table_looks (take i tables)

pub looks_upto : (tables : List PatternTable) (i : ℕ) (t : PatternTable) → i < length tables → t ≡ slice_index_or tables i t → sum_by table_looks (take i tables) + table_looks t ≤ sum_by table_looks tables
looks_upto tables i t inside is = subst (λ (u : PatternTable). sum_by table_looks (take i tables) + table_looks u ≤ sum_by table_looks tables) (sym is) (sum_by_more_le table_looks tables i t inside)

no_pattern : BitPattern
no_pattern = record { mask = 0; pattern = 0 }

module _ (width : ℕ) (frames : List Frame) (patterns : List BitPattern) (plain : List Bool) (tables : List PatternTable)
    (hold : HoldPlain patterns plain tables) (stand : AllStand width frames patterns) (w : ℕ) (below : w < 2 ^ width) where
  pub found_decodes : (i : ℕ) (t : PatternTable) (k : ℕ) → i < length tables → t ≡ slice_index_or tables i t → In (entry t.mask (bit_and w t.mask) k) (entries_of t)
      → (k < length frames) × IsPlain plain k × Has w (frame_at frames k)
  found_decodes i t k inside is found =
      let in_tables : In t tables = subst (λ (u : PatternTable). In u tables) (sym is) (place_in tables i t inside) in
      let all : In (entry t.mask (bit_and w t.mask) k) (plain_entries 0 patterns plain) =
      in_permutation (flat_map entries_of tables) (plain_entries 0 patterns plain) _ (IsPermutation-sym (plain_entries 0 patterns plain) (flat_map entries_of tables) hold.entries) (in_flat entries_of in_tables found) in
      let own = entry_of 0 patterns plain (entry t.mask (bit_and w t.mask) k) all in
      let number : own.place ≡ k = (let e = own.number in omega arith) in
      let has : Has w (frame_at frames own.place) = stands_has width _ (slice_index_or patterns own.place no_pattern) w (stand.each own.place no_pattern own.within) below
      (ap (bit_and w) (sym (own.masked no_pattern)) ∙ own.patterned no_pattern) in
      subst (λ (n : ℕ). (n < length frames) × IsPlain plain n × Has w (frame_at frames n)) number
      (subst (λ (n : ℕ). own.place < n) (sym stand.level) own.within, own.is_plain, has)

  pub none_decodes : (n before now : ℕ) → NoneYet w tables n before now → length tables ≤ n → (k : ℕ) → k < length frames → IsPlain plain k → Has w (frame_at frames k) → ⊥
  none_decodes n before now yet le k inside is has =
      let within : k < length patterns = subst (λ (m : ℕ). k < m) stand.level inside in
      let p = slice_index_or patterns k no_pattern in
      let e = entry p.mask p.pattern k in
      let all : In e (flat_map entries_of tables) = in_permutation (plain_entries 0 patterns plain) (flat_map entries_of tables) e hold.entries (subst (λ (n : ℕ). In (entry p.mask p.pattern n) (plain_entries 0 patterns plain)) {x = 0 + k} {y = k} (omega arith) (has_entry 0 patterns plain k no_pattern within is)) in
      let table = from_flat entries_of tables all in
      let t = table.0 in
      let at = in_place table.1 in
      let own = in_mask t.mask t.patterns.items t.forms.items e table.2 in
      let same : p.pattern ≡ bit_and w t.mask = sym (has_stands width _ p w (stand.each k no_pattern within) has) ∙ ap (bit_and w) own.0 in
      let here_is : In (entry t.mask (bit_and w t.mask) k) (entries_of t) = subst (λ (q : ℕ). In (entry t.mask q k) (entries_of t)) same (subst (λ (m : ℕ). In (entry m p.pattern k) (entries_of t)) own.0 table.2) in
      yet.absent at.0 t (let a = at.1 in omega arith) k (subst (λ (u : PatternTable). In (entry u.mask (bit_and w u.mask) k) (entries_of u)) (sym (at.2 t)) here_is)

pub looks_part : (tables : List PatternTable) (i : ℕ) → sum_by table_looks (take i tables) ≤ sum_by table_looks tables
looks_part tables i = sum_by-take-le table_looks tables i
