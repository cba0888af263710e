-- Rising entries are cut into tables, one for each mask.
use Rattle.std.proofs.Common.{◌≡◌, ℕ, suc, ◌+◌, ◌-◌, ◌<◌, ◌≤◌, List, [], ◌∷◌, ◌++◌, length, take, drop, map, get_or, refl, sym, ap, ap₂, ◌∙◌, subst, arith, inl, inr}
use Rattle.std.specs.Prelude.{slice_index, AllPairs}
use Rattle.std.specs.List.{flat_map}
use Rattle.std.proofs.lemmas.List.{get_or-take, get_or-drop, get_or-map, length-take-le, length-drop, length-map, map-append, flat_map_more, take_all}
use Rattle.std.proofs.Math.Seq.{take-add}
use Rattle.instruction_trees.specs.Trees.{In, here, there}
use Rattle.instruction_trees.specs.Forms.{Distinct, none, more}
use Rattle.instruction_trees.proofs.Listing.{in_append, distinct_append}
use Rattle.pattern_tables.specs.declared.entry.Entry.{Entry}
use Rattle.pattern_tables.specs.declared.table.PatternTable.{PatternTable}
use Rattle.pattern_tables.specs.Rising.{IsRising}
use Rattle.pattern_tables.specs.Entries.{entry, IsBefore, mask, pattern}
use Rattle.pattern_tables.specs.Tables.{with_mask, mask_of, entries_of, masks_of}
use Rattle.pattern_tables.proofs.Decoding.{no_entry}

-- ---- a part of a list

abbrev pub span : List Entry → ℕ → ℕ → List Entry
span es start end = take (end - start) (drop start es)

pub length-span : (es : List Entry) (start end : ℕ) → start ≤ end → end ≤ length es → length (span es start end) ≡ end - start
length-span es start end le within = length-take-le (end - start) (drop start es) (let l = length-drop start es in omega arith)

at_span : (es : List Entry) (start end k : ℕ) (d : Entry) → k < end - start → get_or (span es start end) k d ≡ get_or es (start + k) d
at_span es start end k d h = get_or-take (end - start) (drop start es) k d h ∙ get_or-drop start es k d

abbrev pub IsRun : List Entry → ℕ → ℕ → Type 0
IsRun es start end = (k : ℕ) (d : Entry) → start ≤ k → k < end → (get_or es k d).mask ≡ (get_or es start d).mask

pattern_before : (a b : Entry) → IsBefore a b → a.mask ≡ b.mask → a.pattern < b.pattern
pattern_before a b (mask h) e = absurd (omega arith)
pattern_before a b (pattern f h) e = h

mask_before : (a b : Entry) → IsBefore a b → a.mask ≤ b.mask
mask_before a b (mask h) = omega arith
mask_before a b (pattern f h) = omega arith

pub span_rises : (es : List Entry) (start end : ℕ) → AllPairs IsBefore es → start ≤ end → end ≤ length es → IsRun es start end → IsRising (map (λ (e : Entry). e.pattern) (span es start end))
span_rises es start end rising le within run i j less inside =
    let xs = span es start end in
    let size : length (map (λ (e : Entry). e.pattern) xs) ≡ end - start = length-map xs (λ (e : Entry). e.pattern) ∙ length-span es start end le within in
    let size' = length-span es start end le within in
    let at : (k : ℕ) → k < end - start → slice_index (map (λ (e : Entry). e.pattern) xs) k ≡ (get_or es (start + k) no_entry).pattern = λ k h. get_or-map (λ (e : Entry). e.pattern) xs k no_entry 0 (omega arith) ∙ ap (λ (e : Entry). e.pattern) (at_span es start end k no_entry h) in
    let one : (get_or es (start + i) no_entry).mask ≡ (get_or es (start + j) no_entry).mask = run (start + i) no_entry (omega arith) (omega arith) ∙ sym (run (start + j) no_entry (omega arith) (omega arith)) in
    let up : (get_or es (start + i) no_entry).pattern < (get_or es (start + j) no_entry).pattern = pattern_before (get_or es (start + i) no_entry) (get_or es (start + j) no_entry) (rising (start + i) (start + j) no_entry (omega arith) (omega arith)) one in
    let a = at i (omega arith) in
    let b = at j (omega arith) in
    omega arith

-- ---- entries of one mask

pub masked_map : (m : ℕ) (es : List Entry) → with_mask m (map (λ (e : Entry). e.pattern) es) (map (λ (e : Entry). e.form) es) ≡ map (λ (e : Entry). entry m e.pattern e.form) es
masked_map m [] = refl
masked_map m (e ∷ es) = ap (λ (xs : List Entry). entry m e.pattern e.form ∷ xs) (masked_map m es)

masked_back : (m : ℕ) (es : List Entry) → ((k : ℕ) (d : Entry) → k < length es → (get_or es k d).mask ≡ m) → map (λ (e : Entry). entry m e.pattern e.form) es ≡ es
masked_back m [] all = refl
masked_back m (e ∷ es) all =
    ap₂ (λ (x : Entry) (xs : List Entry). x ∷ xs) (ap (λ (k : ℕ). entry k e.pattern e.form) (sym (all 0 e (omega arith)))) (masked_back m es (λ k d h. all (suc k) d (omega arith)))

-- ---- the loop

pub record Tabled (es : List Entry) (start : ℕ) (tables : List PatternTable) : Type 0 where
  pub within : start ≤ length es
  pub entries : flat_map entries_of tables ≡ take start es
  pub masks : Distinct (masks_of tables)
  pub below : (m : ℕ) → In m (masks_of tables) → (d : Entry) → start < length es → m < (get_or es start d).mask
  pub used : (t : PatternTable) → In t tables → 0 < length (entries_of t)

pub none_tabled : (es : List Entry) → Tabled es 0 []
none_tabled es = record { within = omega arith; entries = refl; masks = none; below = λ m i. elim i [ ]; used = λ t i. elim i [ ] }

only_one : {A : Type 0} {x y : A} → In x (y ∷ []) → x ≡ y
only_one here = refl
only_one (there i) = elim i [ ]

module _ (es : List Entry) (start end : ℕ) (tables : List PatternTable) (t : PatternTable) (rising : AllPairs IsBefore es) (so_far : Tabled es start tables)
    (later : start < end) (within : end ≤ length es) (run : IsRun es start end) (last : (d : Entry) → end < length es → (get_or es end d).mask ≡ (get_or es start d).mask → ⊥)
    (m : ℕ) (first : (d : Entry) → m ≡ (get_or es start d).mask) (masked : mask_of t ≡ m)
    (made : entries_of t ≡ map (λ (e : Entry). entry m e.pattern e.form) (span es start end)) where
  first_mask : (d : Entry) → mask_of t ≡ (get_or es start d).mask
  first_mask d = masked ∙ first d

  entries_are : entries_of t ≡ span es start end
  entries_are =
      let size = length-span es start end (omega arith) within in
      made
      ∙ masked_back m (span es start end) (λ k d h. ap (λ (e : Entry). e.mask) (at_span es start end k d (omega arith)) ∙ run (start + k) d (omega arith) (omega arith) ∙ sym (first d))

  masks_are : masks_of (tables ++ t ∷ []) ≡ masks_of tables ++ mask_of t ∷ []
  masks_are = map-append mask_of tables (t ∷ [])

  step : (d : Entry) → end < length es → (get_or es start d).mask < (get_or es end d).mask
  step d inside = let up = mask_before (get_or es start d) (get_or es end d) (rising start end d later inside) in let differ = last d inside in omega arith

  below_end : (m : ℕ) → In m (masks_of tables ++ mask_of t ∷ []) → (d : Entry) → end < length es → m < (get_or es end d).mask
  below_end m i d inside = elim (in_append (masks_of tables) (mask_of t ∷ []) i) [
    | inl old ↦ (let a = so_far.below m old d (omega arith) in let b = step d inside in omega arith)
    | inr new ↦ (let a = only_one new in let b = step d inside in let c = first_mask d in omega arith)
  ]

  used_too : (u : PatternTable) → In u (tables ++ t ∷ []) → 0 < length (entries_of u)
  used_too u i = elim (in_append tables (t ∷ []) i) [
    | inl old ↦ so_far.used u old
    | inr new ↦ (
        let size : length (entries_of t) ≡ end - start = ap (λ (xs : List Entry). length xs) entries_are ∙ length-span es start end (omega arith) within in
        let same : length (entries_of u) ≡ length (entries_of t) = ap (λ (v : PatternTable). length (entries_of v)) (only_one new) in
        omega arith)
  ]

  pub one_tabled : Tabled es end (tables ++ t ∷ [])
  one_tabled = record {
    within = within;
    entries =
        sym (flat_map_more entries_of [] tables t) ∙ ap₂ (λ (xs ys : List Entry). xs ++ ys) so_far.entries entries_are ∙ sym (take-add start (end - start) es)
        ∙ ap (λ (k : ℕ). take k es) {x = start + (end - start)} {y = end} (omega arith);
    masks = subst Distinct (sym masks_are) (distinct_append so_far.masks (more (λ i. elim i [ ]) none) (λ m old new.
        let a = so_far.below m old no_entry (omega arith) in let b = only_one new in let c = first_mask no_entry in omega arith));
    below = λ m i. below_end m (subst (In m) masks_are i);
    used = used_too;
  }

-- ---- one table

pub table_patterns : (es : List Entry) (ps : List ℕ) (i : ℕ) → length es ≤ i → ps ≡ map (λ (e : Entry). e.pattern) (take i es) → ps ≡ map (λ (e : Entry). e.pattern) es
table_patterns es ps i le e = e ∙ ap (map (λ (x : Entry). x.pattern)) (take_all i es le)

pub table_forms : (es : List Entry) (ks : List ℕ) (i : ℕ) → length es ≤ i → ks ≡ map (λ (e : Entry). e.form) (take i es) → ks ≡ map (λ (e : Entry). e.form) es
table_forms es ks i le e = e ∙ ap (map (λ (x : Entry). x.form)) (take_all i es le)

pub table_level : (es : List Entry) (ps ks : List ℕ) → ps ≡ map (λ (e : Entry). e.pattern) es → ks ≡ map (λ (e : Entry). e.form) es → length ks ≡ length ps
table_level es ps ks p k = ap (λ (xs : List ℕ). length xs) k ∙ length-map es (λ (e : Entry). e.form) ∙ sym (length-map es (λ (e : Entry). e.pattern)) ∙ sym (ap (λ (xs : List ℕ). length xs) p)

pub table_few : (es : List Entry) (ps : List ℕ) → ps ≡ map (λ (e : Entry). e.pattern) es → length ps ≡ length es
table_few es ps p = ap (λ (xs : List ℕ). length xs) p ∙ length-map es (λ (e : Entry). e.pattern)
