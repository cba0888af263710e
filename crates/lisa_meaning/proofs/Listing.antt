-- There is a value for each item, within its width.
use Rattle.std.proofs.Common.{◌≡◌, ◌<◌, ◌+◌, ◌-◌, ◌^◌, ◌∙◌, ℕ, zero, suc, Bool, true, false, cond, List, [], ◌∷◌, ◌++◌, Option, None, Some, length, map, get_or, drop, filter, refl, sym, ap, subst, arith}
use Rattle.std.specs.Prelude.{option_map, slice_get}
use Rattle.std.specs.Option.{option_map_or}
use Rattle.std.specs.List.{flat_map, range_with_len}
use Rattle.std.proofs.lemmas.List.{length-drop, map-append}
use Rattle.std.proofs.lemmas.Option.{slice_get-get_or, slice_get_within, same_Some}
use Rattle.lisa_tree.specs.declared.tokens.Shape.{Shape}
use Rattle.lisa_tree.specs.Descriptions.{DescriptionTree}
use Rattle.lisa_engine.specs.declared.parts.Item.{Item}
use Rattle.lisa_engine.specs.Shape.{IsFitting}
use Rattle.lisa_tree.specs.Resources.{stages, fields}
use Rattle.use_promises.specs.machine_parts.Parts.{registers_of}
use Rattle.lisa_forms.specs.activation_trees.declared.parts.Occurrence.{Occurrence}
use Rattle.lisa_forms.specs.activation_trees.Unfolding.{occurrences}
use Rattle.lisa_forms.specs.activation_trees.Items.{field_item, boundary_items, root_stage, word_item, word_items, has_bit, bit_item, bits_from, bit_items}
use Rattle.lisa_forms.specs.coding_tables.Instructions.{instruction_choice}
use Rattle.lisa_forms.specs.instruction_forms.Widths.{HasWidth}
use Rattle.lisa_forms.specs.description_sizes.Sizes.{items}
use Rattle.item_layouts.specs.declared.place.ItemPlace.{ItemPlace}
use Rattle.item_layouts.specs.declared.place.ItemPlace.TheVariants.{Register, Field, Word, Bit}
use Rattle.item_layouts.specs.Layouts.{value_at, register_places, boundary_places, field_places, words_from, word_places, stage_places, bit_places, item_values}
use Rattle.pipeline_time.specs.Bits.{Hardware}
use Rattle.lisa_meaning.specs.Moments.{Contents, field_at}
use Rattle.lisa_meaning.specs.States.{first_word, layout_of, values_of}
use Rattle.lisa_meaning.proofs.Stored.{FieldFits}

-- one value for each item, within its width
abbrev pub AreFitting : List Item → List ℕ → Type 0
AreFitting [] [] = Unit {0}
AreFitting (i ∷ all) (v ∷ vs) = (v < 2 ^ i.width) × AreFitting all vs
AreFitting _ _ = ⊥

fit_append : (all more : List Item) (vs ws : List ℕ) → AreFitting all vs → AreFitting more ws → AreFitting (all ++ more) (vs ++ ws)
fit_append [] more [] ws h k = k
fit_append [] more (v ∷ vs) ws h k = absurd h
fit_append (i ∷ all) more [] ws h k = absurd h
fit_append (i ∷ all) more (v ∷ vs) ws h k = (h.0, fit_append all more vs ws h.1 k)

fit_count : (all : List Item) (vs : List ℕ) → AreFitting all vs → length vs ≡ length all
fit_count [] [] h = refl
fit_count [] (v ∷ vs) h = absurd h
fit_count (i ∷ all) [] h = absurd h
fit_count (i ∷ all) (v ∷ vs) h = ap suc (fit_count all vs h.1)

fit_each : (all : List Item) (vs : List ℕ) → AreFitting all vs → (k : ℕ) (one : Item) → k < length all → get_or vs k 0 < 2 ^ (get_or all k one).width
fit_each [] vs h k one low = absurd (omega (arith, low))
fit_each (i ∷ all) [] h k one low = absurd h
fit_each (i ∷ all) (v ∷ vs) h zero one low = h.0
fit_each (i ∷ all) (v ∷ vs) h (suc k) one low = fit_each all vs h.1 k one (omega (arith, low))

pub fitting : (all : List Item) (vs : List ℕ) → AreFitting all vs → IsFitting all vs
fitting all vs h = record { count = fit_count all vs h; within = λ k one low. fit_each all vs h k one low }

-- ---- values by numbers

numbered : {X : Type 0} (item : X → Item) (xs : List X) (k n : ℕ) (g : ℕ → ℕ) → n ≡ length xs → ((j : ℕ) (x : X) → slice_get xs j ≡ Some x → g (k + j) < 2 ^ (item x).width) → AreFitting (map item xs) (map g (range_with_len k n))
numbered item [] k zero g e h = tt
numbered item [] k (suc n) g e h = absurd (omega (arith, e))
numbered item (x ∷ xs) k zero g e h = absurd (omega (arith, e))
numbered item (x ∷ xs) k (suc n) g e h = (
  subst (λ (m : ℕ). g m < 2 ^ (item x).width) (let same : k + 0 ≡ k = omega arith in same) (h 0 x refl),
  numbered item xs (k + 1) n g (omega (arith, e)) (λ j y is. subst (λ (m : ℕ). g m < 2 ^ (item y).width) (let same : k + suc j ≡ k + 1 + j = omega arith in same) (h (suc j) y is)),
)

map_twice : {X Y Z : Type 0} (f : Y → Z) (g : X → Y) (xs : List X) → map f (map g xs) ≡ map (λ x. f (g x)) xs
map_twice f g [] = refl
map_twice {Z = Z} f g (x ∷ xs) = ap (λ (l : List Z). f (g x) ∷ l) (map_twice f g xs)

map_none : {X : Type 0} (xs : List X) → map (λ x. x) xs ≡ xs
map_none [] = refl
map_none {X = X} (x ∷ xs) = ap (λ (l : List X). x ∷ l) (map_none xs)

module _ (d : DescriptionTree) (hard : Hardware Contents) where
  abbrev Value : ItemPlace → ℕ
  Value p = value_at (values_of hard) p

  abbrev Stands : ℕ → ℕ → Bool
  Stands t k = option_map_or (has_bit t) (slice_get (occurrences d) k) false

  placed : {X : Type 0} (item : X → Item) (xs : List X) (k n : ℕ) (p : ℕ → ItemPlace) → n ≡ length xs → ((j : ℕ) (x : X) → slice_get xs j ≡ Some x → Value (p (k + j)) < 2 ^ (item x).width) → AreFitting (map item xs) (map Value (map p (range_with_len k n)))
  placed item xs k n p e h = subst (AreFitting (map item xs)) (sym (map_twice Value p (range_with_len k n))) (numbered item xs k n (λ m. Value (p m)) e h)

  registers_fit : IsFitting (registers_of d) hard.memory.registers → AreFitting (registers_of d) (map Value (register_places (layout_of d)))
  registers_fit fit =
      subst (λ (l : List Item). AreFitting l (map Value (register_places (layout_of d)))) (map_none (registers_of d))
      (placed (λ (i : Item). i) (registers_of d) 0 (length (registers_of d)) Register refl
      (λ j x is.
      let low = slice_get_within (registers_of d) j x is in
      let same : get_or (registers_of d) j x ≡ x = same_Some _ x (sym (slice_get-get_or (registers_of d) j x low) ∙ is) in
      let within = fit.within j x low in
      let held : get_or hard.memory.registers j 0 < 2 ^ x.width = subst (λ (i : Item). get_or hard.memory.registers j 0 < 2 ^ i.width) same within in
      subst (λ (m : ℕ). get_or hard.memory.registers m 0 < 2 ^ x.width) (let e : j ≡ 0 + j = omega arith in e) held))

  module _ (fits : (s f : ℕ) → FieldFits d f (field_at hard.memory.fields s f)) where
    boundaries_fit : (names : List (List ℕ)) (s n : ℕ) → n ≡ length names - 1 → AreFitting (boundary_items (fields d) names) (map Value (flat_map (boundary_places (layout_of d)) (range_with_len s n)))
    boundaries_fit [] s zero e = tt
    boundaries_fit [] s (suc n) e = absurd (omega (arith, e))
    boundaries_fit (a ∷ []) s zero e = tt
    boundaries_fit (a ∷ []) s (suc n) e = absurd (omega (arith, e))
    boundaries_fit (a ∷ b ∷ rest) s zero e = absurd (omega (arith, e))
    boundaries_fit (a ∷ b ∷ rest) s (suc n) e =
        let here = boundary_places (layout_of d) s in
        let later = flat_map (boundary_places (layout_of d)) (range_with_len (s + 1) n) in
        subst (AreFitting (map (field_item a b) (fields d) ++ boundary_items (fields d) (b ∷ rest))) (sym (map-append Value here later))
        (fit_append (map (field_item a b) (fields d)) (boundary_items (fields d) (b ∷ rest)) (map Value here) (map Value later)
        (placed (field_item a b) (fields d) 0 (length (fields d)) (Field s) refl
        (λ j x is.
        subst (λ (m : ℕ). field_at hard.memory.fields s m < 2 ^ x.0.width) (let same : j ≡ 0 + j = omega arith in same)
        (fits s j x.0 (ap (option_map (λ (field : Shape × List ℕ). field.0)) is))))
        (boundaries_fit (b ∷ rest) (s + 1) n (omega (arith, e))))

  words_fit : (width : Option ℕ) (choice root : Option ℕ) → ((w : ℕ) → width ≡ Some w → (t : ℕ) → hard.words t < 2 ^ w) → (width ≡ None → choice ≡ None) → ((w : ℕ) → width ≡ Some w → (c : ℕ) × (choice ≡ Some c))
      → AreFitting (word_items (stages d) width root) (map Value (words_from (length (stages d)) (first_word choice root)))
  words_fit None choice root fits none some = subst (λ (c : Option ℕ). AreFitting [] (map Value (words_from (length (stages d)) (first_word c root)))) (sym (none refl)) tt
  words_fit (Some w) choice root fits none some =
      let c = some w refl in
      subst (λ (o : Option ℕ). AreFitting (word_items (stages d) (Some w) root) (map Value (words_from (length (stages d)) (first_word o root)))) (sym c.1) (by c.0 root)
    where
      by : (c : ℕ) (r : Option ℕ) → AreFitting (word_items (stages d) (Some w) r) (map Value (words_from (length (stages d)) (first_word (Some c) r)))
      by c None = tt
      by c (Some s) =
          placed (word_item w) (drop (s + 1) (stages d)) (s + 1) (length (stages d) - (s + 1)) Word (sym (length-drop (s + 1) (stages d))) (λ j x is. fits w refl (suc (s + 1 + j)))

  -- ---- bits

  one_bit : (b : Bool) → cond b 1 0 < 2 ^ 1
  one_bit true = omega arith
  one_bit false = omega arith

  bits_fit : (stage : List ℕ) (t : ℕ) (xs : List Occurrence) (k n : ℕ) → n ≡ length xs → ((j : ℕ) (x : Occurrence) → slice_get xs j ≡ Some x → Stands t (k + j) ≡ has_bit t x)
      → AreFitting (bits_from d stage t k xs) (map Value (map (Bit t) (filter (Stands t) (range_with_len k n))))
  bits_fit stage t [] k zero e h = tt
  bits_fit stage t [] k (suc n) e h = absurd (omega (arith, e))
  bits_fit stage t (x ∷ xs) k zero e h = absurd (omega (arith, e))
  bits_fit stage t (x ∷ xs) k (suc n) e h =
      by (has_bit t x) (Stands t k) (subst (λ (m : ℕ). Stands t m ≡ has_bit t x) (let same : k + 0 ≡ k = omega arith in same) (h 0 x refl))
      (bits_fit stage t xs (k + 1) n (omega (arith, e)) (λ j y is. subst (λ (m : ℕ). Stands t m ≡ has_bit t y) (let same : k + suc j ≡ k + 1 + j = omega arith in same) (h (suc j) y is)))
    where
      by : (b c : Bool) → c ≡ b → AreFitting (bits_from d stage t (k + 1) xs) (map Value (map (Bit t) (filter (Stands t) (range_with_len (k + 1) n)))) → AreFitting (cond b (bit_item d stage x k ∷ []) [] ++ bits_from d stage t (k + 1) xs) (map Value (map (Bit t) (cond c (k ∷ filter (Stands t) (range_with_len (k + 1) n)) (filter (Stands t) (range_with_len (k + 1) n)))))
      by true true same fit = (one_bit (hard.bits (suc t) k), fit)
      by true false same fit = absurd (cc same)
      by false true same fit = absurd (cc same)
      by false false same fit = fit

  stages_fit : (names : List (List ℕ)) (t n : ℕ) → n ≡ length names → AreFitting (bit_items d (occurrences d) t names) (map Value (flat_map (stage_places (layout_of d)) (range_with_len t n)))
  stages_fit [] t zero e = tt
  stages_fit [] t (suc n) e = absurd (omega (arith, e))
  stages_fit (a ∷ names) t zero e = absurd (omega (arith, e))
  stages_fit (a ∷ names) t (suc n) e =
      let here = stage_places (layout_of d) t in
      let later = flat_map (stage_places (layout_of d)) (range_with_len (t + 1) n) in
      subst (AreFitting (bits_from d a t 0 (occurrences d) ++ bit_items d (occurrences d) (t + 1) names)) (sym (map-append Value here later))
      (fit_append (bits_from d a t 0 (occurrences d)) (bit_items d (occurrences d) (t + 1) names) (map Value here) (map Value later)
      (bits_fit a t (occurrences d) 0 (length (occurrences d)) refl
      (λ j x is. subst (λ (m : ℕ). Stands t m ≡ has_bit t x) (let same : j ≡ 0 + j = omega arith in same) (ap (λ (o : Option Occurrence). option_map_or (has_bit t) o false) is)))
      (stages_fit names (t + 1) n (omega (arith, e))))

  -- ---- all of them

  pub items_fit : (width : Option ℕ) → HasWidth d width → IsFitting (registers_of d) hard.memory.registers → ((s f : ℕ) → FieldFits d f (field_at hard.memory.fields s f)) → ((w : ℕ) → width ≡ Some w → (t : ℕ) → hard.words t < 2 ^ w)
      → IsFitting (items d width) (item_values (layout_of d) (values_of hard))
  items_fit width has registers fits words =
      let l = layout_of d in
      let rs = register_places l in
      let fs = field_places l in
      let ws = word_places l in
      let bs = bit_places l in
      let all = occurrences d in
      let bounds = boundary_items (fields d) (stages d) in
      let named = word_items (stages d) width (root_stage d all) in
      let marks = bit_items d all 0 (stages d) in
      fitting (items d width) (item_values l (values_of hard))
      (subst (AreFitting (registers_of d ++ (bounds ++ (named ++ marks)))) (sym (map-append Value rs (fs ++ (ws ++ bs))))
      (fit_append (registers_of d) (bounds ++ (named ++ marks)) (map Value rs) (map Value (fs ++ (ws ++ bs))) (registers_fit registers)
      (subst (AreFitting (bounds ++ (named ++ marks))) (sym (map-append Value fs (ws ++ bs)))
      (fit_append bounds (named ++ marks) (map Value fs) (map Value (ws ++ bs)) (boundaries_fit fits (stages d) 0 (length (stages d) - 1) refl)
      (subst (AreFitting (named ++ marks)) (sym (map-append Value ws bs))
      (fit_append named marks (map Value ws) (map Value bs)
      (words_fit width (instruction_choice d) (root_stage d all) words (no_choice width has) (some_choice width has))
      (stages_fit (stages d) 0 (length (stages d)) refl)))))))
    where
      no_choice : (o : Option ℕ) → HasWidth d o → o ≡ None → instruction_choice d ≡ None
      no_choice None h e = h
      no_choice (Some w) h e = absurd (cc e)

      some_choice : (o : Option ℕ) → HasWidth d o → (w : ℕ) → o ≡ Some w → (c : ℕ) × (instruction_choice d ≡ Some c)
      some_choice None h w e = absurd (cc e)
      some_choice (Some v) h w e = (h.0, h.1)
