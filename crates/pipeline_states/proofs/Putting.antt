-- Items that are put into registers and fields, one after the other.
use Rattle.std.proofs.Common.{◌≡◌, ◌≢◌, ◌<◌, ◌≤◌, ◌-◌, ℕ, zero, suc, List, [], ◌∷◌, Some, length, map, get_or, set, refl, sym, ap, ap₂, ◌∙◌, arith, subst, ⊎_elim}
use Rattle.std.specs.Prelude.{slice_get}
use Rattle.std.specs.List.{range_with_len}
use Rattle.std.proofs.lemmas.Bool.{cases_eq, cases_lt}
use Rattle.std.proofs.lemmas.Option.{slice_get_within}
use Rattle.std.proofs.lemmas.List.{get_or-set_same, get_or-set_other, length-set, length-map, ext_get_or}
use Rattle.std.proofs.lemmas.List.FromFn.{length-map-range_with_len, get_or-map-range_with_len}
use Rattle.std.proofs.Math.Seq.{map-set_same}
use Rattle.lisa_tree.specs.Descriptions.{DescriptionTree}
use Rattle.lisa_tree.specs.Resources.{stages, fields}
use Rattle.item_layouts.specs.declared.place.ItemPlace.{ItemPlace}
use Rattle.item_layouts.specs.declared.place.ItemPlace.TheVariants.{Register, Field}
use Rattle.item_layouts.specs.Layouts.{ItemValues, HasPlace, item_places}
use Rattle.item_layouts.proofs.Listed.{listed}
use Rattle.lisa_meaning.specs.Moments.{Contents, field_at, by_boundaries}
use Rattle.lisa_meaning.specs.States.{layout_of}
use Rattle.pipeline_states.specs.Putting.{IsPut, PutItemsAreHeld}

-- ---- tables of rows

-- another value at a place
abbrev pub cell_set : List (List ℕ) → ℕ → ℕ → ℕ → List (List ℕ)
cell_set all s f bits = set all s (set (get_or all s []) f bits)

lens_kept : (all : List (List ℕ)) (s f bits : ℕ) → map length (cell_set all s f bits) ≡ map length all
lens_kept all s f bits = map-set_same length all s (set (get_or all s []) f bits) [] (length-set (get_or all s []) f bits)

lens_count : (xs ys : List (List ℕ)) → map length xs ≡ map length ys → length xs ≡ length ys
lens_count xs ys e = sym (length-map xs length) ∙ ap length e ∙ length-map ys length

lens_at : (xs ys : List (List ℕ)) (s : ℕ) → map length xs ≡ map length ys → length (get_or xs s []) ≡ length (get_or ys s [])
lens_at [] [] s e = refl
lens_at [] (y ∷ ys) s e = absurd (cc e)
lens_at (x ∷ xs) [] s e = absurd (cc e)
lens_at (x ∷ xs) (y ∷ ys) zero e = cc e
lens_at (x ∷ xs) (y ∷ ys) (suc s) e = lens_at xs ys s (cc e)

same_tables : (xs ys : List (List ℕ)) → map length xs ≡ map length ys → ((s f : ℕ) → s < length xs → f < length (get_or xs s []) → get_or (get_or xs s []) f 0 ≡ get_or (get_or ys s []) f 0) → xs ≡ ys
same_tables xs ys e same =
    ext_get_or [] xs ys (lens_count xs ys e)
    (λ s low. ext_get_or 0 (get_or xs s []) (get_or ys s []) (lens_at xs ys s e) (λ f less. same s f low less))

cell_here : (all : List (List ℕ)) (s f bits : ℕ) → s < length all → f < length (get_or all s []) → field_at (cell_set all s f bits) s f ≡ bits
cell_here all s f bits low less =
    ap (λ (row : List ℕ). get_or row f 0) (get_or-set_same all s (set (get_or all s []) f bits) [] low) ∙ get_or-set_same (get_or all s []) f bits 0 less

cell_there : (all : List (List ℕ)) (s f bits t g : ℕ) → s < length all → (s ≡ t → f ≡ g → ⊥) → field_at (cell_set all s f bits) t g ≡ field_at all t g
cell_there all s f bits t g low apart =
    ⊎_elim
    (λ (e : s ≡ t).
    subst (λ (u : ℕ). field_at (cell_set all s f bits) u g ≡ field_at all u g) e
    (ap (λ (row : List ℕ). get_or row g 0) (get_or-set_same all s (set (get_or all s []) f bits) [] low)
    ∙ get_or-set_other (get_or all s []) f g bits 0 (λ z. apart e (sym z))))
    (λ (ne : s ≡ t → ⊥). ap (λ (row : List ℕ). get_or row g 0) (get_or-set_other all s t (set (get_or all s []) f bits) [] (λ z. ne (sym z))))
    (cases_eq s t)

-- ---- one more place

module _ (places : List ItemPlace) (v : ItemValues) (i : ℕ) (old new : Contents) (put : IsPut places v i old new) where
  one_register : (j k : ℕ) → Register j ≡ Register k → j ≡ k
  one_register j k e = cc e

  one_field : (s f t g : ℕ) → Field s f ≡ Field t g → (s ≡ t) × (f ≡ g)
  one_field s f t g e = (cc e, cc e)

  same_place : (p q : ItemPlace) → slice_get places i ≡ Some p → slice_get places i ≡ Some q → p ≡ q
  same_place p q e f = cc (e, f)

  below : (j : ℕ) → j < suc i → (j ≡ i → ⊥) → j < i
  below j less ne = ⊎_elim (λ (l : j < i). l) (λ (past : i ≤ j). absurd (ne (omega (arith, less, past)))) (cases_lt j i)

  pub put_register : (k bits : ℕ) → slice_get places i ≡ Some (Register k) → bits ≡ v.register k
      → IsPut places v (suc i) old (record { registers = set new.registers k bits; cells = new.cells; fields = new.fields })
  put_register k bits at is = record {
    registers = length-set new.registers k bits ∙ put.registers;
    registers_are = λ j n less place low.
        ⊎_elim
        (λ (e : n ≡ k).
        let count = put.registers in
        subst (λ (m : ℕ). get_or (set new.registers k bits) m 0 ≡ v.register m) (sym e)
        (get_or-set_same new.registers k bits 0 (omega (arith, e, low, count)) ∙ is))
        (λ (ne : n ≡ k → ⊥).
        get_or-set_other new.registers k n bits 0 ne
        ∙ put.registers_are j n (below j less (λ e. ne (one_register n k (same_place (Register n) (Register k) (subst (λ (m : ℕ). slice_get places m ≡ Some (Register n)) e place) at)))) place low)
        (cases_eq n k);
    fields = put.fields;
    fields_are = λ j s f less place low deep.
        put.fields_are j s f (below j less (λ e. absurd (cc (same_place (Field s f) (Register k) (subst (λ (m : ℕ). slice_get places m ≡ Some (Field s f)) e place) at)))) place low deep;
    cells = put.cells;
  }

  -- a place that there isn't is left alone
  field_rest : (s f bits t g : ℕ) → t < length old.fields → g < length (get_or old.fields t []) → (s ≡ t → f ≡ g → ⊥) → field_at (cell_set new.fields s f bits) t g ≡ field_at new.fields t g
  field_rest s f bits t g low deep apart =
      ⊎_elim
      (λ (less : s < length new.fields). cell_there new.fields s f bits t g less apart)
      (λ (past : length new.fields ≤ s).
      let count = lens_count new.fields old.fields put.fields in
      ap (λ (row : List ℕ). get_or row g 0) (get_or-set_other new.fields s t (set (get_or new.fields s []) f bits) [] (λ e. absurd (omega (arith, e, low, count, past)))))
      (cases_lt s (length new.fields))

  pub put_field : (s f bits : ℕ) → slice_get places i ≡ Some (Field s f) → bits ≡ v.field s f
      → IsPut places v (suc i) old (record { registers = new.registers; cells = new.cells; fields = cell_set new.fields s f bits })
  put_field s f bits at is = record {
    registers = put.registers;
    registers_are = λ j n less place low.
        put.registers_are j n (below j less (λ e. absurd (cc (same_place (Register n) (Field s f) (subst (λ (m : ℕ). slice_get places m ≡ Some (Register n)) e place) at)))) place low;
    fields = lens_kept new.fields s f bits ∙ put.fields;
    fields_are = λ j t g less place low deep.
        let count = lens_count new.fields old.fields put.fields in
        let row = lens_at new.fields old.fields t put.fields in
        let other : (s ≡ t → f ≡ g → ⊥) → field_at (cell_set new.fields s f bits) t g ≡ v.field t g = λ apart.
        field_rest s f bits t g low deep apart
        ∙ put.fields_are j t g (below j less (λ e. let both = one_field t g s f (same_place (Field t g) (Field s f) (subst (λ (m : ℕ). slice_get places m ≡ Some (Field t g)) e place) at) in apart (sym both.0) (sym both.1))) place low deep in
        ⊎_elim
        (λ (e : s ≡ t).
        ⊎_elim
        (λ (h : f ≡ g).
        ap₂ (λ (a b : ℕ). field_at (cell_set new.fields a b bits) t g) e h
        ∙ cell_here new.fields t g bits (omega (arith, low, count)) (omega (arith, deep, row))
        ∙ is ∙ ap₂ v.field e h)
        (λ (ne : f ≡ g → ⊥). other (λ x y. ne y))
        (cases_eq f g))
        (λ (ne : s ≡ t → ⊥). other (λ x y. ne x))
        (cases_eq s t);
    cells = put.cells;
  }

  pub put_none : (p : ItemPlace) → slice_get places i ≡ Some p → ((k : ℕ) → p ≢ Register k) → ((s f : ℕ) → p ≢ Field s f) → IsPut places v (suc i) old new
  put_none p at no_register no_field = record {
    registers = put.registers;
    registers_are = λ j n less place low.
        put.registers_are j n (below j less (λ e. no_register n (same_place p (Register n) at (subst (λ (m : ℕ). slice_get places m ≡ Some (Register n)) e place)))) place low;
    fields = put.fields;
    fields_are = λ j s f less place low deep.
        put.fields_are j s f (below j less (λ e. no_field s f (same_place p (Field s f) at (subst (λ (m : ℕ). slice_get places m ≡ Some (Field s f)) e place)))) place low deep;
    cells = put.cells;
  }

pub none_put : (places : List ItemPlace) (v : ItemValues) (old : Contents) → IsPut places v 0 old old
none_put places v old = record {
  registers = refl;
  registers_are = λ i k less place low. absurd (omega (arith, less));
  fields = refl;
  fields_are = λ i s f less place low deep. absurd (omega (arith, less));
  cells = refl;
}

-- ---- all places

module _ (d : DescriptionTree) where
  boundary_lens : (g h : ℕ → ℕ → ℕ) → map length (by_boundaries d g) ≡ map length (by_boundaries d h)
  boundary_lens g h = rows (range_with_len 0 (length (stages d) - 1))
    where
      width : ℕ
      width = length (fields d)

      rows : (all : List ℕ) → map length (map (λ s. map (g s) (range_with_len 0 (length (fields d)))) all) ≡ map length (map (λ s. map (h s) (range_with_len 0 (length (fields d)))) all)
      rows [] = refl
      rows (s ∷ rest) =
          ap₂ (λ (x : ℕ) (xs : List ℕ). x ∷ xs) (length-map-range_with_len (g s) 0 (length (fields d)) ∙ sym (length-map-range_with_len (h s) 0 (length (fields d)))) (rows rest)

  boundary_count : (g : ℕ → ℕ → ℕ) → length (by_boundaries d g) ≡ length (stages d) - 1
  boundary_count g = length-map-range_with_len (λ s. map (g s) (range_with_len 0 (length (fields d)))) 0 (length (stages d) - 1)

  boundary_row : (g : ℕ → ℕ → ℕ) (s : ℕ) → s < length (stages d) - 1 → length (get_or (by_boundaries d g) s []) ≡ length (fields d)
  boundary_row g s low =
      ap length (get_or-map-range_with_len (λ s. map (g s) (range_with_len 0 (length (fields d)))) 0 (length (stages d) - 1) s s [] low (omega arith))
      ∙ length-map-range_with_len (g s) 0 (length (fields d))

  pub put_items_held : PutItemsAreHeld d
  put_items_held before hard new had has put = (
    ext_get_or 0 new.registers hard.memory.registers (put.registers ∙ had.registers ∙ sym has.registers)
        (λ k low.
        let count = put.registers ∙ had.registers in
        let at = (listed (layout_of d) (Register k)).0 (omega (arith, low, count)) in
        let old = put.registers in
        put.registers_are at.0 k (slice_get_within (item_places (layout_of d)) at.0 (Register k) at.1) at.1 (omega (arith, low, old))),
    same_tables new.fields hard.memory.fields
        (put.fields ∙ ap (map length) had.fields ∙ boundary_lens (field_at before.memory.fields) (field_at hard.memory.fields) ∙ ap (map length) (sym has.fields))
        (λ s f low deep.
        let many = lens_count new.fields before.memory.fields put.fields in
        let row = lens_at new.fields before.memory.fields s put.fields in
        let rows = ap length had.fields ∙ boundary_count (field_at before.memory.fields) in
        let in_table : s < length (stages d) - 1 = omega (arith, low, many, rows) in
        let width = ap (λ (all : List (List ℕ)). length (get_or all s [])) had.fields ∙ boundary_row (field_at before.memory.fields) s in_table in
        let place : HasPlace (layout_of d) (Field s f) = (omega (arith, in_table), omega (arith, deep, row, width)) in
        let at = (listed (layout_of d) (Field s f)).0 place in
        put.fields_are at.0 s f (slice_get_within (item_places (layout_of d)) at.0 (Field s f) at.1) at.1 (omega (arith, low, many)) (omega (arith, deep, row))),
  )
