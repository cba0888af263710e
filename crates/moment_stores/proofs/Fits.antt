-- What is set, written and closed is within the widths of what the description declares.
use Rattle.std.proofs.Common.{◌≡◌, ℕ, zero, suc, ◌^◌, ◌<◌, Bool, true, false, List, [], Option, Some, None, length, map, get_or, set, refl, ap, sym, ◌∙◌, subst, arith, ⊎_elim, ◌⊎◌, inl, inr}
use Rattle.std.specs.Prelude.{unwrap_or, replicate}
use Rattle.std.specs.List.{range_with_len}
use Rattle.std.proofs.lemmas.Bool.{cases_eq, cases_lt}
use Rattle.std.proofs.lemmas.Option.{same_Some}
use Rattle.std.proofs.lemmas.Nat.{pow_pos}
use Rattle.std.proofs.lemmas.List.{get_or-replicate, length-replicate, get_or-set_same, get_or-set_other, get_or_past, length-set}
use Rattle.std.proofs.lemmas.List.FromFn.{length-map-range_with_len, get_or-map-range_with_len}
use Rattle.lisa_tree.specs.declared.tokens.Shape.{Shape}
use Rattle.lisa_tree.specs.Descriptions.{DescriptionTree}
use Rattle.lisa_engine.specs.Shape.{IsFitting}
use Rattle.lisa_engine.specs.declared.parts.Item.{Item}
use Rattle.lisa_meaning.specs.Moments.{Outs, field_before, written}
use Rattle.lisa_meaning.specs.Values.{shape_at}
use Rattle.moment_stores.specs.Rows.{value_at, place_set, table}
use Rattle.moment_stores.specs.Boundaries.{closed_by, closed}
use Rattle.moment_stores.specs.Fitting.{FieldsFit, OutsFit}
use Rattle.moment_stores.proofs.Tables.{place_past, place_short, value_set_same, value_set_other}

-- ---- values by items

pub fit_set : (items : List Item) (values : List ℕ) (place bits : ℕ) → IsFitting items values → ((item : Item) → place < length items → bits < 2 ^ (get_or items place item).width) → IsFitting items (set values place bits)
fit_set items values place bits fit within = record {
  count = length-set values place bits ∙ fit.count;
  within = λ k item less. ⊎_elim
      (λ e. let inside : k < length values = omega (arith, fit.count) in
      subst (λ (n : ℕ). get_or (set values place bits) n 0 < 2 ^ (get_or items n item).width) (sym e)
      (let near : place < length values = omega (arith, inside, e) in let here : place < length items = omega (arith, less, e) in
      subst (λ (v : ℕ). v < 2 ^ (get_or items place item).width) (sym (get_or-set_same values place bits 0 near)) (within item here)))
      (λ ne. subst (λ (v : ℕ). v < 2 ^ (get_or items k item).width) (sym (get_or-set_other values place k bits 0 ne)) (fit.within k item less))
      (cases_eq k place);
}

pub zeros_fit : (items : List Item) (count : ℕ) → count ≡ length items → IsFitting items (replicate count 0)
zeros_fit items count all = record {
  count = length-replicate count 0 ∙ all;
  within = λ k item less. subst (λ (v : ℕ). v < 2 ^ (get_or items k item).width) (sym (get_or-replicate count k 0 0 (omega (arith, less, all)))) (pow_pos (get_or items k item).width);
}

-- ---- values at places

-- a value that was set, or one as before
either_value : {T : Type 0} (all : List (List T)) (a i b j : ℕ) (v d : T) → ((i ≡ j) × (value_at (place_set all a i v) b j d ≡ v)) ⊎ (value_at (place_set all a i v) b j d ≡ value_at all b j d)
either_value {T} all a i b j v d =
    ⊎_elim
    (λ e. ⊎_elim (λ f. here e f) (λ ne. inr (value_set_other all a i b j v d (λ x y. ne y))) (cases_eq i j))
    (λ ne. inr (value_set_other all a i b j v d (λ x y. ne x)))
    (cases_eq a b)
  where
    here : a ≡ b → i ≡ j → ((i ≡ j) × (value_at (place_set all a i v) b j d ≡ v)) ⊎ (value_at (place_set all a i v) b j d ≡ value_at all b j d)
    here e f =
        ⊎_elim
        (λ less. ⊎_elim
        (λ inside. inl (f, sym (ap (λ (n : ℕ). value_at (place_set all a i v) n i d) e ∙ ap (λ (n : ℕ). value_at (place_set all a i v) b n d) f) ∙ value_set_same all a i v d less inside))
        (λ past. inr (ap (λ (x : List (List T)). value_at x b j d) (place_short all a i v past)))
        (cases_lt i (length (get_or all a []))))
        (λ past. inr (ap (λ (x : List (List T)). value_at x b j d) (place_past all a i v past)))
        (cases_lt a (length all))

-- a value of a table, or none
either_place : {T : Type 0} (count width : ℕ) (value : ℕ → ℕ → T) (s f : ℕ) (d : T) → (value_at (table count width value) s f d ≡ value s f) ⊎ (value_at (table count width value) s f d ≡ d)
either_place {T} count width value s f d =
    ⊎_elim
    (λ less. let row : get_or (table count width value) s [] ≡ map (value s) (range_with_len 0 width) = get_or-map-range_with_len (λ (k : ℕ). map (value k) (range_with_len 0 width)) 0 count s s [] less (omega arith) in
    ⊎_elim
    (λ inside. inl (ap (λ (r : List T). get_or r f d) row ∙ get_or-map-range_with_len (value s) 0 width f f d inside (omega arith)))
    (λ past. inr (ap (λ (r : List T). get_or r f d) row ∙ get_or_past (map (value s) (range_with_len 0 width)) f d (omega (arith, past, length-map-range_with_len (value s) 0 width))))
    (cases_lt f width))
    (λ past. inr (ap (λ (r : List T). get_or r f d) (get_or_past (table count width value) s [] (omega (arith, past, length-map-range_with_len (λ (k : ℕ). map (value k) (range_with_len 0 width)) 0 count)))))
    (cases_lt s count)

module _ (d : DescriptionTree) where
  pub fields_set : (fields : List (List ℕ)) (s f bits : ℕ) → FieldsFit d fields → ((shape : Shape) → shape_at d f ≡ Some shape → bits < 2 ^ shape.width) → FieldsFit d (place_set fields s f bits)
  fields_set fields s f bits fit within r g shape is =
      ⊎_elim
      (λ here. subst (λ (v : ℕ). v < 2 ^ shape.width) (sym here.1) (within shape (ap (shape_at d) here.0 ∙ is)))
      (λ same. subst (λ (v : ℕ). v < 2 ^ shape.width) (sym same) (fit r g shape is))
      (either_value fields s f r g bits 0)

  pub outs_set : (outs : Outs) (s f bits : ℕ) → OutsFit d outs → ((shape : Shape) → shape_at d f ≡ Some shape → bits < 2 ^ shape.width) → OutsFit d (place_set outs s f (Some bits))
  outs_set outs s f bits fit within r g other shape is got =
      ⊎_elim
      (λ here. subst (λ (v : ℕ). v < 2 ^ shape.width) (same_Some bits other (sym here.1 ∙ got)) (within shape (ap (shape_at d) here.0 ∙ is)))
      (λ same. fit r g other shape is (sym same ∙ got))
      (either_value outs s f r g (Some bits) None)

  pub fields_table : (count width : ℕ) (value : ℕ → ℕ → ℕ) → ((s f : ℕ) (shape : Shape) → shape_at d f ≡ Some shape → value s f < 2 ^ shape.width) → FieldsFit d (table count width value)
  fields_table count width value within s f shape is =
      ⊎_elim
      (λ e. subst (λ (v : ℕ). v < 2 ^ shape.width) (sym e) (within s f shape is))
      (λ e. subst (λ (v : ℕ). v < 2 ^ shape.width) (sym e) (pow_pos shape.width))
      (either_place count width value s f 0)

  pub no_fields : (count width : ℕ) → FieldsFit d (table count width (λ s f. 0))
  no_fields count width = fields_table count width (λ s f. 0) (λ s f shape is. pow_pos shape.width)

  pub no_outs : (count width : ℕ) → OutsFit d (table count width (λ s f. None))
  no_outs count width s f bits shape is got =
      let none : Option ℕ = None in
      ⊎_elim (λ e. nothing bits shape (sym e ∙ got)) (λ e. nothing bits shape (sym e ∙ got)) (either_place count width (λ (r g : ℕ). none) s f none)
    where
      nothing : (n : ℕ) (h : Shape) → (let none : Option ℕ = None in none ≡ Some n) → n < 2 ^ h.width
      nothing n h e = absurd (cc e)

  module _ (fields : List (List ℕ)) (outs : Outs) (fields_fit : FieldsFit d fields) (outs_fit : OutsFit d outs) where
    before_fits : (s f : ℕ) (shape : Shape) → shape_at d f ≡ Some shape → field_before fields s f < 2 ^ shape.width
    before_fits zero f shape is = pow_pos shape.width
    before_fits (suc s) f shape is = fields_fit s f shape is

    got_fits : (s f : ℕ) (shape : Shape) (o : Option ℕ) → shape_at d f ≡ Some shape → written outs s f ≡ o → unwrap_or o (field_before fields s f) < 2 ^ shape.width
    got_fits s f shape None is got = before_fits s f shape is
    got_fits s f shape (Some bits) is got = outs_fit s f bits shape is got

    one_closed : (stays empties : Bool) (s f : ℕ) (shape : Shape) → shape_at d f ≡ Some shape → closed_by stays empties fields outs s f < 2 ^ shape.width
    one_closed true empties s f shape is = fields_fit s f shape is
    one_closed false true s f shape is = pow_pos shape.width
    one_closed false false s f shape is = got_fits s f shape (written outs s f) is refl

    pub fields_closed : (count width : ℕ) (stalled flushed : List ℕ) → FieldsFit d (table count width (closed stalled flushed fields outs))
    fields_closed count width stalled flushed = fields_table count width (closed stalled flushed fields outs) (λ s f shape is. one_closed _ _ s f shape is)
