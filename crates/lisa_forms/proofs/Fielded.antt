-- The fields of a description's forms, and the words that their values make.
use Rattle.std.proofs.Common.{◌≡◌, ◌<◌, ◌≤◌, ◌+◌, ◌^◌, ℕ, List, [], Option, None, Some, length, get_or, sym, ap, ap₂, ◌∙◌, subst, arith}
use Rattle.std.specs.Prelude.{◌↔◌, slice_index_or, unwrap_or, vec_len}
use Rattle.std.specs.List.{All}
use Rattle.std.specs.Global.{Vec}
use Rattle.std.proofs.lemmas.List.{length-map, get_or-map}
use Rattle.std.proofs.lemmas.List.Elements.{All-get_or}
use Rattle.std.proofs.Math.Pow.{pow_mono}
use Rattle.lisa_tree.specs.Descriptions.{DescriptionTree}
use Rattle.instruction_trees.specs.Bits.{Frame, pattern}
use Rattle.instruction_trees.specs.Trees.{Table, Item, Tree, Done, Fits, AnyValue, form_bits, size, form, placed}
use Rattle.instruction_trees.specs.Trees as plain
use Rattle.instruction_trees.specs.Values.{values, AreWithin, StandsBelow, sum_of, weigh}
use Rattle.instruction_trees.specs.Words.{word_of}
use Rattle.instruction_trees.proofs.FormWords.{word_below}
use Rattle.instruction_trees.proofs.Placing.{places_inside}
use Rattle.instruction_trees.proofs.Relabelled.{bits_relabel}
use Rattle.instruction_trees.proofs.Weighed.{word_of_values}
use Rattle.form_patterns.specs.coding_tables.Codings.{coding_table}
use Rattle.form_patterns.specs.coding_tables.Instructions.{instruction_items, forms_of, form_count}
use Rattle.form_patterns.specs.instruction_forms.Widths.{HasWidth}
use Rattle.form_patterns.proofs.instruction_forms_proofs.Wide.{small_width}
use Rattle.pattern_tables.specs.declared.bit_pattern.BitPattern.{BitPattern}
use Rattle.pattern_tables.specs.declared.fields.Place.{Place}
use Rattle.pattern_tables.specs.Patterns.{frame_at}
use Rattle.pattern_tables.specs.Instructions.{form_at}
use Rattle.pattern_tables.specs.Places.{pair_of}
use Rattle.form_patterns.specs.Instructions.{instruction_frames, field_places, ArePatterns}
use Rattle.form_patterns.specs.Filled.{AreValuesOf, IsInstruction}
use Rattle.form_patterns.specs.Rows.{pairs, pairs_at, ArePlaces}
use Rattle.form_patterns.proofs.Filling.{whole, whole_form, whole_values, whole_fits, places_are, fit_at}
use Rattle.form_patterns.proofs.Rowed.{row_at, rows_counted, row_is}
use Rattle.lisa_forms.specs.declared.coding.Coding.{Coding}
use Rattle.lisa_forms.specs.Rows.{pattern_at}
use Rattle.lisa_forms.specs.Codings.{HasField, IsCodingOf}
use Rattle.lisa_forms.proofs.Patterned.{patterns_counted}

-- ---- any tree

module _ (table : Table) (items : List Item) (f : plain.Form) (fits : Fits AnyValue table f items) where
  -- the sum of values within their places, and the literal bits, is the word of a tree
  pub small_sum : (vs : List ℕ) → AreWithin vs (values (placed table 0 f items)) → pattern (form_bits table f items) + sum_of (weigh vs (values (placed table 0 f items))) < 2 ^ size table f items
  small_sum vs within =
      let t : Tree ℕ = whole table items f fits vs within in
      let formed : form t ≡ f = whole_form table items f fits vs within in
      let all : values t ≡ vs = whole_values table items f fits vs within in
      let places : values (placed table 0 t items) ≡ values (placed table 0 f items) = places_are table items t f formed in
      let literal : form_bits table t items ≡ form_bits table f items = sym (bits_relabel (λ _. tt) table t items) ∙ ap (λ (g : plain.Form). form_bits table g items) formed in
      let sum : word_of table t items ≡ pattern (form_bits table f items) + sum_of (weigh vs (values (placed table 0 f items))) =
      word_of_values table t items (whole_fits table items f fits vs within)
      ∙ ap₂ (λ (fs : Frame) (ps : List (ℕ × ℕ)). pattern fs + sum_of (weigh (values t) ps)) literal places
      ∙ ap (λ (xs : List ℕ). pattern (form_bits table f items) + sum_of (weigh xs (values (placed table 0 f items)))) all in
      subst (λ (fs : Frame). pattern (form_bits table f items) + sum_of (weigh vs (values (placed table 0 f items))) < 2 ^ length fs) literal
      (subst (λ (n : ℕ). n < 2 ^ size table t items) sum (word_below table items t))

-- ---- the forms of a description

module _ (d : DescriptionTree) where
  pub frame_is : (k : ℕ) → k < form_count d → frame_at (instruction_frames d) k ≡ form_bits (coding_table d) (form_at (forms_of d) k) (instruction_items d)
  frame_is k h = get_or-map (λ (f : plain.Form). form_bits (coding_table d) f (instruction_items d)) (forms_of d) k Done [] h

  small_whole : (width : Option ℕ) → HasWidth d width → unwrap_or width 0 ≤ 64
  small_whole None has = omega arith
  small_whole (Some w) (c, is, wide) = small_width d c w is wide

  module _ (width : Option ℕ) (ps : List BitPattern) (has : HasWidth d width) (stand : ArePatterns d width ps) where
    within : (k : ℕ) → k < length ps → k < form_count d
    within k h = subst (λ (n : ℕ). k < n) (patterns_counted d width ps stand) h

    small_form : (k : ℕ) → k < length ps → size (coding_table d) (form_at (forms_of d) k) (instruction_items d) ≤ 64
    small_form k h =
        let e : BitPattern = record { mask = 0; pattern = 0 } in
        let a = (stand.each k e h).wide in
        let b = ap (λ (fs : Frame). length fs) (frame_is k (within k h)) in
        let s = small_whole width has in
        omega (arith, a, b, s)

    pub pattern_is : (k : ℕ) → k < length ps → pattern_at ps k ≡ pattern (form_bits (coding_table d) (form_at (forms_of d) k) (instruction_items d))
    pattern_is k h =
        let e : BitPattern = record { mask = 0; pattern = 0 } in
        get_or-map (λ (p : BitPattern). p.pattern) ps k e 0 h ∙ (stand.each k e h).patterned ∙ ap pattern (frame_is k (within k h))

    module _ (rows : List (Vec Place)) (are : ArePlaces d rows) where
      pub rows_level : length rows ≡ length ps
      rows_level = rows_counted d rows are ∙ sym (patterns_counted d width ps stand)

      pub rows_inside : (k i : ℕ) → k < length ps → i < length (pairs_at rows k) → StandsBelow 64 (slice_index_or (pairs_at rows k) i (0, 0))
      rows_inside k i h l =
          let f = form_at (forms_of d) k in
          let n = size (coding_table d) f (instruction_items d) in
          let is = row_is d rows k are (within k h) in
          let all = subst (λ (xs : List (ℕ × ℕ)). All (StandsBelow n) xs) (sym is) (places_inside (coding_table d) f (instruction_items d)) in
          let at = All-get_or (StandsBelow n) (pairs_at rows k) i (0, 0) l all in
          let most = small_form k h in
          omega (arith, at, most)

      pub rows_fit : (k : ℕ) (vs : List ℕ) → k < length ps → AreWithin vs (pairs_at rows k) → pattern_at ps k + sum_of (weigh vs (pairs_at rows k)) < 2 ^ 64
      rows_fit k vs h w =
          let f = form_at (forms_of d) k in
          let is = row_is d rows k are (within k h) in
          let sum = small_sum (coding_table d) (instruction_items d) f (fit_at d k (within k h)) vs (subst (λ (xs : List (ℕ × ℕ)). AreWithin vs xs) is w) in
          let same : pattern_at ps k + sum_of (weigh vs (pairs_at rows k)) ≡ pattern (form_bits (coding_table d) f (instruction_items d)) + sum_of (weigh vs (field_places d f)) =
          ap₂ (λ (p : ℕ) (xs : List (ℕ × ℕ)). p + sum_of (weigh vs xs)) (pattern_is k h) is in
          let most : 2 ^ size (coding_table d) f (instruction_items d) ≤ 2 ^ 64 = pow_mono (small_form k h) in
          omega (arith, sum, same, most)

      -- the word of the form's tree with these values
      pub tree_word : (k : ℕ) (t : Tree ℕ) (vs : List ℕ) → k < length ps → IsInstruction d k vs t → pattern_at ps k + sum_of (weigh vs (pairs_at rows k)) ≡ word_of (coding_table d) t (instruction_items d)
      tree_word k t vs h is =
          let table = coding_table d in
          let items = instruction_items d in
          let f = form_at (forms_of d) k in
          let literal : form_bits table f items ≡ form_bits table t items = ap (λ (g : plain.Form). form_bits table g items) (sym is.formed) ∙ bits_relabel (λ _. tt) table t items in
          let places : field_places d f ≡ values (placed table 0 t items) = sym (places_are table items t f is.formed) in
          ap₂ (λ (p : ℕ) (xs : List (ℕ × ℕ)). p + sum_of (weigh vs xs)) (pattern_is k h ∙ ap pattern literal) (row_is d rows k are (within k h) ∙ places)
          ∙ ap (λ (xs : List ℕ). pattern (form_bits table t items) + sum_of (weigh xs (values (placed table 0 t items)))) (sym is.valued)
          ∙ sym (word_of_values table t items is.fits)

-- ---- what is asked of a description, said of the rows

module _ (d : DescriptionTree) (c : Coding) (is : IsCodingOf d c) where
  pub form_within : (k : ℕ) → k < form_count d → k < length c.patterns.items
  form_within k h = let n = patterns_counted d c.width c.patterns.items is.all_patterns in omega (arith, h, n)

  pub values_within : (k : ℕ) (vs : List ℕ) → AreValuesOf d k vs → AreWithin vs (pairs_at c.places.items k)
  values_within k vs are = subst (λ (ps : List (ℕ × ℕ)). AreWithin vs ps) (sym (row_is d c.places.items k is.all_places are.within)) are.fit

  pub field_within : (k i : ℕ) → HasField d k i → i < length (pairs_at c.places.items k)
  field_within k i has = subst (λ (ps : List (ℕ × ℕ)). i < length ps) (sym (row_is d c.places.items k is.all_places has.within)) has.placed

  -- two descriptions with this coding have the same values for their fields
  pub same_values : (e : DescriptionTree) (k : ℕ) (vs : List ℕ) → IsCodingOf e c → AreValuesOf e k vs → AreValuesOf d k vs
  same_values e k vs of are =
      let m = rows_counted d c.places.items is.all_places in
      let n = rows_counted e c.places.items of.all_places in
      let h = are.within in
      let within : k < form_count d = omega (arith, m, n, h) in
      record {
        within = within;
        fit = subst (λ (ps : List (ℕ × ℕ)). AreWithin vs ps) (sym (row_is e c.places.items k of.all_places h) ∙ row_is d c.places.items k is.all_places within) are.fit;
      }

  -- ---- how many fields a form has

  pub fields_counted : (k i n : ℕ) (row : Vec Place) → k < length c.places.items → row ≡ get_or c.places.items k row → n ≡ vec_len row → i < n ↔ HasField d k i
  fields_counted k i n row h at len =
      let m = rows_counted d c.places.items is.all_places in
      let within : k < form_count d = omega (arith, m, h) in
      let same : pairs row ≡ field_places d (form_at (forms_of d) k) = sym (row_at c.places.items k row h at) ∙ row_is d c.places.items k is.all_places within in
      let counted : length row.items ≡ length (field_places d (form_at (forms_of d) k)) = sym (length-map row.items pair_of) ∙ ap length same in
      let level : n ≡ length (field_places d (form_at (forms_of d) k)) = omega (arith, len, row.ok.0, counted) in (
        λ l. record { within = within; placed = omega (arith, l, level) },
        λ f. (let l = f.placed in omega (arith, l, level)),
      )

  pub no_fields : (k i : ℕ) → length c.places.items ≤ k → i < 0 ↔ HasField d k i
  no_fields k i h = (λ l. absurd (omega (arith, l)), λ f. (let m = rows_counted d c.places.items is.all_places in let w = f.within in absurd (omega (arith, m, h, w))))
