-- Where bits, words, fields and registers stand among the items of a program.
use Rattle.std.proofs.Common.{◌≡◌, ◌<◌, ◌≤◌, ◌+◌, ◌∙◌, ℕ, zero, suc, List, ◌++◌, Option, None, Some, length, map, get_or, refl, sym, ap, subst, arith, ⊎_elim}
use Rattle.std.specs.Prelude.{slice_get, slice_index, is_some}
use Rattle.std.specs.Option.{option_map, unwrap_or}
use Rattle.std.specs.List.{range_with_len}
use Rattle.std.proofs.lemmas.Bool.{cases_lt}
use Rattle.std.proofs.lemmas.List.{length-map, length-append, get_or_append_left}
use Rattle.std.proofs.lemmas.List.FromFn.{length-range_with_len, get_or-map-range_with_len}
use Rattle.std.proofs.lemmas.Option.{same_Some, slice_get_within, slice_get-get_or, slice_get-map, get_or_from_slice_get}
use Rattle.lisa_tree.specs.Descriptions.{DescriptionTree}
use Rattle.lisa_engine.specs.declared.parts.Item.{Item}
use Rattle.machine_parts.specs.Parts.{registers_of}
use Rattle.state_items.specs.activation_trees.Items.{items_behind}
use Rattle.state_items.specs.activation_trees.Unfolding.{occurrences}
use Rattle.item_layouts.specs.declared.place.ItemPlace.{ItemPlace}
use Rattle.item_layouts.specs.declared.place.ItemPlace.TheVariants.{Register, Field, Word, Bit}
use Rattle.item_layouts.specs.Layouts.{HasPlace, place_of, item_places, register_places, field_places, word_places, bit_places}
use Rattle.item_layouts.proofs.Listed.{listed, once, found}
use Rattle.step_program.specs.Programs.{Program}
use Rattle.step_program.specs.Effects.{item_width}
use Rattle.step_pieces.specs.Formed.{Lies}
use Rattle.state_items.specs.lisa_meaning.States.{layout_of}
use Rattle.lowered_resources.specs.Places.{Lasting, HasField, Has, field_width, lasting_width, ArePlaced}
use Rattle.lowered_layouts.specs.Temps.{boundaries_at, temp, rows_at, row_count, lasting_widths}
use Rattle.lowered_layouts.specs.Items.{field_place, places_of, IsArranged}
use Rattle.lowered_layouts.proofs.Temps.{lasting_long, temp_first, temp_low, temp_wide, temps_apart}
use Rattle.lowered_layouts.proofs.Widths.{place_wide, items_wide}

left_get : {X : Type 0} (xs ys : List X) (k : ℕ) (x : X) → slice_get xs k ≡ Some x → slice_get (xs ++ ys) k ≡ Some x
left_get {X = X} xs ys k x is =
    let low = slice_get_within xs k x is in
    let long = length-append xs ys in
    slice_get-get_or (xs ++ ys) k x (omega (arith, low, long)) ∙ ap (λ (y : X). Some y) (get_or_append_left xs ys x k low ∙ get_or_from_slice_get xs k x x is)

module _ (d : DescriptionTree) where
  -- ---- places

  -- a place that there is has a number
  pub place_found : (p : ItemPlace) → HasPlace (layout_of d) p → (i : ℕ) × (place_of (layout_of d) p ≡ Some i)
  place_found p has = let at = (listed (layout_of d) p).0 has in (at.0, (found (layout_of d) p at.0).1 at.1)

  pub place_there : (p : ItemPlace) (i : ℕ) → place_of (layout_of d) p ≡ Some i → HasPlace (layout_of d) p
  place_there p i e = (listed (layout_of d) p).1 (i, (found (layout_of d) p i).0 e)

  -- two places of one number are the same
  pub one_place : (p q : ItemPlace) (i : ℕ) → place_of (layout_of d) p ≡ Some i → place_of (layout_of d) q ≡ Some i → p ≡ q
  one_place p q i e f = same_Some p q (sym ((found (layout_of d) p i).0 e) ∙ (found (layout_of d) q i).0 f)

  pub field_is : (s f : ℕ) → HasField d s f → place_of (layout_of d) (Field s f) ≡ Some (field_place d s f)
  field_is s f has = let at = place_found (Field s f) has in at.1 ∙ ap Some (sym (ap (λ (o : Option ℕ). unwrap_or o 0) at.1))

  pub fields_apart : (s f t g : ℕ) → HasField d s f → HasField d t g → field_place d s f ≡ field_place d t g → (s ≡ t) × (f ≡ g)
  fields_apart s f t g has also e =
      let same : Field s f ≡ Field t g = one_place (Field s f) (Field t g) (field_place d t g) (field_is s f has ∙ ap Some e) (field_is t g also) in
      (cc same, cc same)

  -- registers come first
  pub register_at : (k : ℕ) → k < length (registers_of d) → place_of (layout_of d) (Register k) ≡ Some k
  register_at k low =
      let l = layout_of d in
      let n = length (registers_of d) in
      let long : length (register_places l) ≡ n = length-map (range_with_len 0 n) Register ∙ length-range_with_len 0 n in
      let first : slice_get (register_places l) k ≡ Some (Register k) =
      slice_get-get_or (register_places l) k (Register k) (omega (arith, long, low)) ∙ ap (λ (x : ItemPlace). Some x) (get_or-map-range_with_len Register 0 n k k (Register k) low (omega arith)) in
      (found l (Register k) k).1 (left_get (register_places l) (field_places l ++ (word_places l ++ bit_places l)) k (Register k) first)

  pub field_behind : (s f : ℕ) → HasField d s f → length (registers_of d) ≤ field_place d s f
  field_behind s f has = ⊎_elim
      (λ low. (let same : Register (field_place d s f) ≡ Field s f = one_place (Register (field_place d s f)) (Field s f) (field_place d s f) (register_at (field_place d s f) low) (field_is s f has) in absurd (cc same)))
      (λ high. high)
      (cases_lt (field_place d s f) (length (registers_of d)))

  -- ---- items of a program

  module _ (declared : Option ℕ) (width : ℕ) (p : Program) (arranged : IsArranged d declared width p) where
    abbrev wide : Item → ℕ
    wide i = i.width

    widths_are : map wide p.items ≡ map (place_wide d width) (item_places (layout_of d))
    widths_are = ap (map wide) arranged.items ∙ items_wide d width declared arranged.has_width arranged.of_declared

    pub items_long : length p.items ≡ length (item_places (layout_of d))
    items_long = sym (length-map p.items wide) ∙ ap (λ (ns : List ℕ). length ns) widths_are ∙ length-map (item_places (layout_of d)) (place_wide d width)

    pub place_within : (x : ItemPlace) (i : ℕ) → place_of (layout_of d) x ≡ Some i → i < length p.items
    place_within x i e =
        let low = slice_get_within (item_places (layout_of d)) i x ((found (layout_of d) x i).0 e) in
        let long = items_long in
        omega (arith, low, long)

    pub place_width : (x : ItemPlace) (i : ℕ) → place_of (layout_of d) x ≡ Some i → item_width p i ≡ place_wide d width x
    place_width x i e =
        ap (λ (ns : List ℕ). get_or ns i 0) widths_are
        ∙ get_or_from_slice_get (map (place_wide d width) (item_places (layout_of d))) i (place_wide d width x) 0
        (slice_get-map (place_wide d width) (item_places (layout_of d)) i ∙ ap (option_map (place_wide d width)) ((found (layout_of d) x i).0 e))

    pub are_placed : ArePlaced d (places_of d) p (boundaries_at d) (length (lasting_widths d width))
    are_placed =
        let long = lasting_long d width in
        let lie = arranged.temps in
        let lasts : (x : Lasting) → Has d x → temp d x < length (lasting_widths d width) = λ x has. (let low = temp_low d x has in omega (arith, low, long)) in
        record {
          arrays = arranged.arrays;
          pins = arranged.pins;
          registers = λ k item is.
              ap (λ (items : List Item). slice_get items k) arranged.items ∙ left_get (registers_of d) (items_behind d declared (occurrences d)) k item is;
          behind_registers = field_behind;
          field_there = λ s f has. place_within (Field s f) (field_place d s f) (field_is s f has);
          field_wide = λ s f has. place_width (Field s f) (field_place d s f) (field_is s f has);
          temp_first = temp_first d;
          temp_lasts = lasts;
          temps_there = (let room = lie.room in omega (arith, room));
          temp_wide = λ x has. (let here : temp d x ≡ 0 + temp d x = omega arith in ap (λ (n : ℕ). slice_index p.temps n) here ∙ lie.at (temp d x) (lasts x has) ∙ temp_wide d width x has);
          apart = temps_apart d;
        }
