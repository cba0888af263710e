-- How wide the item of each place is.
use Rattle.std.proofs.Common.{◌≡◌, ◌<◌, ◌+◌, ◌-◌, ◌∙◌, ℕ, zero, suc, Bool, true, false, cond, List, [], ◌∷◌, ◌++◌, Option, None, Some, length, map, drop, filter, refl, sym, ap, ap₂, subst, arith}
use Rattle.std.specs.Prelude.{option_map, slice_get}
use Rattle.std.specs.Option.{option_map_or}
use Rattle.std.specs.List.{flat_map, range_with_len}
use Rattle.std.proofs.lemmas.List.{length-drop, map-append}
use Rattle.std.proofs.lemmas.Option.{same_Some}
use Rattle.lisa_tree.specs.declared.tokens.Shape.{Shape}
use Rattle.lisa_tree.specs.Descriptions.{DescriptionTree}
use Rattle.lisa_engine.specs.declared.parts.Item.{Item}
use Rattle.lisa_tree.specs.Resources.{stages, fields}
use Rattle.machine_parts.specs.Parts.{registers_of}
use Rattle.state_items.specs.activation_trees.declared.parts.Occurrence.{Occurrence}
use Rattle.state_items.specs.activation_trees.Unfolding.{occurrences}
use Rattle.state_items.specs.activation_trees.Items.{field_item, boundary_items, root_stage, word_item, word_items, has_bit, bit_item, bits_from, bit_items}
use Rattle.lowered_words.specs.coding_tables.Instructions.{instruction_choice}
use Rattle.lowered_words.specs.instruction_forms.Widths.{HasWidth}
use Rattle.state_items.specs.description_sizes.Sizes.{items}
use Rattle.item_layouts.specs.declared.place.ItemPlace.{ItemPlace}
use Rattle.item_layouts.specs.declared.place.ItemPlace.TheVariants.{Register, Field, Word, Bit}
use Rattle.item_layouts.specs.Layouts.{register_places, boundary_places, field_places, words_from, word_places, stage_places, bit_places, item_places}
use Rattle.state_items.specs.lisa_meaning.States.{first_word, layout_of}
use Rattle.lowered_resources.specs.Places.{field_width}

abbrev item_wide : Item → ℕ
item_wide i = i.width

-- ---- lists by numbers

numbered : {X : Type 0} (v : X → ℕ) (xs : List X) (k n : ℕ) (g : ℕ → ℕ) → n ≡ length xs → ((j : ℕ) (x : X) → slice_get xs j ≡ Some x → g (k + j) ≡ v x) → map v xs ≡ map g (range_with_len k n)
numbered v [] k zero g e h = refl
numbered v [] k (suc n) g e h = absurd (omega (arith, e))
numbered v (x ∷ xs) k zero g e h = absurd (omega (arith, e))
numbered v (x ∷ xs) k (suc n) g e h =
    let here : k + 0 ≡ k = omega arith in
    ap₂ (λ (y : ℕ) (ys : List ℕ). y ∷ ys) (sym (sym (ap g here) ∙ h 0 x refl))
    (numbered v xs (k + 1) n g (omega (arith, e)) (λ j y is. (let next : k + 1 + j ≡ k + suc j = omega arith in ap g next ∙ h (suc j) y is)))

mapped : {X Y Z : Type 0} (f : Y → Z) (g : X → Y) (xs : List X) → map f (map g xs) ≡ map (λ x. f (g x)) xs
mapped f g [] = refl
mapped {Z = Z} f g (x ∷ xs) = ap (λ (l : List Z). f (g x) ∷ l) (mapped f g xs)

module _ (d : DescriptionTree) (width : ℕ) where
  -- of the item at a place
  abbrev pub place_wide : ItemPlace → ℕ
  place_wide (Register k) = option_map_or item_wide (slice_get (registers_of d) k) 0
  place_wide (Field b f) = field_width d f
  place_wide (Word s) = width
  place_wide (Bit s k) = 1

  abbrev Stands : ℕ → ℕ → Bool
  Stands t k = option_map_or (has_bit t) (slice_get (occurrences d) k) false

  placed : {X : Type 0} (item : X → Item) (xs : List X) (k n : ℕ) (p : ℕ → ItemPlace) → n ≡ length xs → ((j : ℕ) (x : X) → slice_get xs j ≡ Some x → place_wide (p (k + j)) ≡ (item x).width)
      → map item_wide (map item xs) ≡ map place_wide (map p (range_with_len k n))
  placed item xs k n p e h =
      mapped item_wide item xs ∙ numbered (λ x. (item x).width) xs k n (λ m. place_wide (p m)) e h ∙ sym (mapped place_wide p (range_with_len k n))

  registers_wide : map item_wide (registers_of d) ≡ map place_wide (register_places (layout_of d))
  registers_wide =
      numbered item_wide (registers_of d) 0 (length (registers_of d)) (λ m. place_wide (Register m)) refl
      (λ j x is. (let same : 0 + j ≡ j = omega arith in ap (λ (m : ℕ). place_wide (Register m)) same ∙ ap (λ (o : Option Item). option_map_or item_wide o 0) is))
      ∙ sym (mapped place_wide Register (range_with_len 0 (length (registers_of d))))

  appended : (xs : List Item) (ys : List Item) (ps qs : List ItemPlace) → map item_wide xs ≡ map place_wide ps → map item_wide ys ≡ map place_wide qs → map item_wide (xs ++ ys) ≡ map place_wide (ps ++ qs)
  appended xs ys ps qs a b = map-append item_wide xs ys ∙ ap₂ (λ (ns ms : List ℕ). ns ++ ms) a b ∙ sym (map-append place_wide ps qs)

  boundaries_wide : (names : List (List ℕ)) (s n : ℕ) → n ≡ length names - 1 → map item_wide (boundary_items (fields d) names) ≡ map place_wide (flat_map (boundary_places (layout_of d)) (range_with_len s n))
  boundaries_wide [] s zero e = refl
  boundaries_wide [] s (suc n) e = absurd (omega (arith, e))
  boundaries_wide (a ∷ []) s zero e = refl
  boundaries_wide (a ∷ []) s (suc n) e = absurd (omega (arith, e))
  boundaries_wide (a ∷ b ∷ rest) s zero e = absurd (omega (arith, e))
  boundaries_wide (a ∷ b ∷ rest) s (suc n) e =
      appended (map (field_item a b) (fields d)) (boundary_items (fields d) (b ∷ rest)) (boundary_places (layout_of d) s) (flat_map (boundary_places (layout_of d)) (range_with_len (s + 1) n))
      (placed (field_item a b) (fields d) 0 (length (fields d)) (Field s) refl
      (λ j x is. (let same : 0 + j ≡ j = omega arith in ap (field_width d) same ∙ ap (λ (o : Option (Shape × List ℕ)). option_map_or (λ (field : Shape × List ℕ). field.0.width) o 1) is)))
      (boundaries_wide (b ∷ rest) (s + 1) n (omega (arith, e)))

  words_wide : (declared choice root : Option ℕ) → ((w : ℕ) → declared ≡ Some w → w ≡ width) → (declared ≡ None → choice ≡ None) → ((w : ℕ) → declared ≡ Some w → (c : ℕ) × (choice ≡ Some c))
      → map item_wide (word_items (stages d) declared root) ≡ map place_wide (words_from (length (stages d)) (first_word choice root))
  words_wide None choice root same none some = sym (ap (λ (c : Option ℕ). map place_wide (words_from (length (stages d)) (first_word c root))) (none refl))
  words_wide (Some w) choice root same none some =
      let c = some w refl in
      by c.0 root ∙ sym (ap (λ (o : Option ℕ). map place_wide (words_from (length (stages d)) (first_word o root))) c.1)
    where
      by : (c : ℕ) (r : Option ℕ) → map item_wide (word_items (stages d) (Some w) r) ≡ map place_wide (words_from (length (stages d)) (first_word (Some c) r))
      by c None = refl
      by c (Some s) =
          placed (word_item w) (drop (s + 1) (stages d)) (s + 1) (length (stages d) - (s + 1)) Word (sym (length-drop (s + 1) (stages d))) (λ j x is. sym (same w refl))

  -- ---- bits

  bits_wide : (stage : List ℕ) (t : ℕ) (xs : List Occurrence) (k n : ℕ) → n ≡ length xs → ((j : ℕ) (x : Occurrence) → slice_get xs j ≡ Some x → Stands t (k + j) ≡ has_bit t x)
      → map item_wide (bits_from d stage t k xs) ≡ map place_wide (map (Bit t) (filter (Stands t) (range_with_len k n)))
  bits_wide stage t [] k zero e h = refl
  bits_wide stage t [] k (suc n) e h = absurd (omega (arith, e))
  bits_wide stage t (x ∷ xs) k zero e h = absurd (omega (arith, e))
  bits_wide stage t (x ∷ xs) k (suc n) e h =
      by (has_bit t x) (Stands t k) (subst (λ (m : ℕ). Stands t m ≡ has_bit t x) (let same : k + 0 ≡ k = omega arith in same) (h 0 x refl))
      (bits_wide stage t xs (k + 1) n (omega (arith, e)) (λ j y is. subst (λ (m : ℕ). Stands t m ≡ has_bit t y) (let same : k + suc j ≡ k + 1 + j = omega arith in same) (h (suc j) y is)))
    where
      by : (b c : Bool) → c ≡ b → map item_wide (bits_from d stage t (k + 1) xs) ≡ map place_wide (map (Bit t) (filter (Stands t) (range_with_len (k + 1) n)))
          → map item_wide (cond b (bit_item d stage x k ∷ []) [] ++ bits_from d stage t (k + 1) xs) ≡ map place_wide (map (Bit t) (cond c (k ∷ filter (Stands t) (range_with_len (k + 1) n)) (filter (Stands t) (range_with_len (k + 1) n))))
      by true true same rest = ap (λ (ns : List ℕ). 1 ∷ ns) rest
      by true false same rest = absurd (cc same)
      by false true same rest = absurd (cc same)
      by false false same rest = rest

  stages_wide : (names : List (List ℕ)) (t n : ℕ) → n ≡ length names → map item_wide (bit_items d (occurrences d) t names) ≡ map place_wide (flat_map (stage_places (layout_of d)) (range_with_len t n))
  stages_wide [] t zero e = refl
  stages_wide [] t (suc n) e = absurd (omega (arith, e))
  stages_wide (a ∷ names) t zero e = absurd (omega (arith, e))
  stages_wide (a ∷ names) t (suc n) e =
      appended (bits_from d a t 0 (occurrences d)) (bit_items d (occurrences d) (t + 1) names) (stage_places (layout_of d) t) (flat_map (stage_places (layout_of d)) (range_with_len (t + 1) n))
      (bits_wide a t (occurrences d) 0 (length (occurrences d)) refl (λ j x is. (let same : 0 + j ≡ j = omega arith in ap (Stands t) same ∙ ap (λ (o : Option Occurrence). option_map_or (has_bit t) o false) is)))
      (stages_wide names (t + 1) n (omega (arith, e)))

  -- ---- all of them

  pub items_wide : (declared : Option ℕ) → HasWidth d declared → ((w : ℕ) → declared ≡ Some w → w ≡ width) → map item_wide (items d declared) ≡ map place_wide (item_places (layout_of d))
  items_wide declared has same =
      let l = layout_of d in
      let all = occurrences d in
      let bounds = boundary_items (fields d) (stages d) in
      let named = word_items (stages d) declared (root_stage d all) in
      let marks = bit_items d all 0 (stages d) in
      appended (registers_of d) (bounds ++ (named ++ marks)) (register_places l) (field_places l ++ (word_places l ++ bit_places l)) registers_wide
      (appended bounds (named ++ marks) (field_places l) (word_places l ++ bit_places l) (boundaries_wide (stages d) 0 (length (stages d) - 1) refl)
      (appended named marks (word_places l) (bit_places l)
      (words_wide declared (instruction_choice d) (root_stage d all) same (no_choice declared has) (some_choice declared has))
      (stages_wide (stages d) 0 (length (stages d)) refl)))
    where
      no_choice : (o : Option ℕ) → HasWidth d o → o ≡ None → instruction_choice d ≡ None
      no_choice None h e = h
      no_choice (Some w) h e = absurd (cc e)

      some_choice : (o : Option ℕ) → HasWidth d o → (w : ℕ) → o ≡ Some w → (c : ℕ) × (instruction_choice d ≡ Some c)
      some_choice None h w e = absurd (cc e)
      some_choice (Some v) h w e = (h.0, h.1)
