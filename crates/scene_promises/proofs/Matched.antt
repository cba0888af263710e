-- There is an item for each place.
use Rattle.std.proofs.Common.{◌≡◌, ◌+◌, ◌-◌, ◌∙◌, ℕ, zero, suc, Bool, true, false, cond, List, [], ◌∷◌, ◌++◌, Option, None, Some, length, map, drop, filter, refl, sym, ap, subst, arith}
use Rattle.std.specs.Prelude.{slice_get}
use Rattle.std.specs.Option.{option_map_or}
use Rattle.std.specs.List.{flat_map, range_with_len}
use Rattle.std.proofs.lemmas.List.{length-drop}
use Rattle.std.proofs.lemmas.Option.{same_Some}
use Rattle.lisa_tree.specs.declared.tokens.Shape.{Shape}
use Rattle.lisa_tree.specs.Descriptions.{DescriptionTree}
use Rattle.lisa_engine.specs.declared.parts.Item.{Item}
use Rattle.lisa_tree.specs.Resources.{stages, fields}
use Rattle.machine_parts.specs.Parts.{registers_of}
use Rattle.activation_trees.specs.declared.parts.Occurrence.{Occurrence}
use Rattle.activation_trees.specs.Unfolding.{occurrences}
use Rattle.activation_trees.specs.Items.{field_item, boundary_items, root_stage, word_item, word_items, has_bit, bit_item, bits_from, bit_items}
use Rattle.coding_tables.specs.Instructions.{instruction_choice}
use Rattle.instruction_forms.specs.Widths.{HasWidth}
use Rattle.description_sizes.specs.Sizes.{items}
use Rattle.item_layouts.specs.declared.place.ItemPlace.{ItemPlace}
use Rattle.item_layouts.specs.declared.place.ItemPlace.TheVariants.{Register, Field, Word, Bit}
use Rattle.item_layouts.specs.Layouts.{register_places, boundary_places, field_places, words_from, word_places, stage_places, bit_places, item_places}
use Rattle.lisa_meaning.specs.States.{first_word, layout_of}
use Rattle.scene_promises.specs.ItemsThere.{field_between, word_of, bit_of, item_of, HasItem}

-- what stands behind so many elements
pub drop_is : {X : Type 0} (n : ℕ) (xs : List X) (j : ℕ) (x : X) → slice_get (drop n xs) j ≡ Some x → slice_get xs (n + j) ≡ Some x
drop_is zero xs j x e = let same : 0 + j ≡ j = omega arith in ap (slice_get xs) same ∙ e
drop_is (suc n) [] j x e = absurd (cc e)
drop_is (suc n) (y ∷ xs) j x e = let same : suc n + j ≡ suc (n + j) = omega arith in ap (slice_get (y ∷ xs)) same ∙ drop_is n xs j x e

module _ (d : DescriptionTree) (width : Option ℕ) where
  -- an item for each place, in order
  abbrev pub AreItems : List Item → List ItemPlace → Type 0
  AreItems [] [] = Unit {0}
  AreItems [] (p ∷ ps) = ⊥
  AreItems (x ∷ xs) [] = ⊥
  AreItems (x ∷ xs) (p ∷ ps) = (item_of d width p ≡ Some x) × AreItems xs ps

  both_are : (xs ys : List Item) (ps qs : List ItemPlace) → AreItems xs ps → AreItems ys qs → AreItems (xs ++ ys) (ps ++ qs)
  both_are [] ys [] qs h k = k
  both_are [] ys (p ∷ ps) qs h k = absurd h
  both_are (x ∷ xs) ys [] qs h k = absurd h
  both_are (x ∷ xs) ys (p ∷ ps) qs h k = (h.0, both_are xs ys ps qs h.1 k)

  pub counted : (xs : List Item) (ps : List ItemPlace) → AreItems xs ps → length xs ≡ length ps
  counted [] [] h = refl
  counted [] (p ∷ ps) h = absurd h
  counted (x ∷ xs) [] h = absurd h
  counted (x ∷ xs) (p ∷ ps) h = ap suc (counted xs ps h.1)

  pub item_there : (xs : List Item) (ps : List ItemPlace) → AreItems xs ps → (i : ℕ) (p : ItemPlace) → slice_get ps i ≡ Some p → (x : Item) × (item_of d width p ≡ Some x) × (slice_get xs i ≡ Some x)
  item_there [] [] h i p e = absurd (cc e)
  item_there [] (q ∷ ps) h i p e = absurd h
  item_there (x ∷ xs) [] h i p e = absurd h
  item_there (x ∷ xs) (q ∷ ps) h zero p e = (x, subst (λ (z : ItemPlace). item_of d width z ≡ Some x) (same_Some q p e) h.0, refl)
  item_there (x ∷ xs) (q ∷ ps) h (suc i) p e = item_there xs ps h.1 i p e

  pub place_there : (xs : List Item) (ps : List ItemPlace) → AreItems xs ps → (i : ℕ) (x : Item) → slice_get xs i ≡ Some x → (p : ItemPlace) × (slice_get ps i ≡ Some p) × (item_of d width p ≡ Some x)
  place_there [] [] h i x e = absurd (cc e)
  place_there [] (p ∷ ps) h i x e = absurd h
  place_there (y ∷ xs) [] h i x e = absurd h
  place_there (y ∷ xs) (p ∷ ps) h zero x e = (p, refl, h.0 ∙ e)
  place_there (y ∷ xs) (p ∷ ps) h (suc i) x e = place_there xs ps h.1 i x e

  -- items and places that are numbered from a number on
  numbered : {X : Type 0} (item : X → Item) (xs : List X) (k n : ℕ) (g : ℕ → ItemPlace) → n ≡ length xs → ((j : ℕ) (x : X) → slice_get xs j ≡ Some x → item_of d width (g (k + j)) ≡ Some (item x))
      → AreItems (map item xs) (map g (range_with_len k n))
  numbered item [] k zero g e h = tt
  numbered item [] k (suc n) g e h = absurd (omega (arith, e))
  numbered item (x ∷ xs) k zero g e h = absurd (omega (arith, e))
  numbered item (x ∷ xs) k (suc n) g e h = (
    subst (λ (m : ℕ). item_of d width (g m) ≡ Some (item x)) (let same : k + 0 ≡ k = omega arith in same) (h 0 x refl),
    numbered item xs (k + 1) n g (omega (arith, e)) (λ j y is. subst (λ (m : ℕ). item_of d width (g m) ≡ Some (item y)) (let same : k + suc j ≡ k + 1 + j = omega arith in same) (h (suc j) y is)),
  )

  itself : (xs : List Item) → map (λ (x : Item). x) xs ≡ xs
  itself [] = refl
  itself (x ∷ xs) = ap (λ (l : List Item). x ∷ l) (itself xs)

  -- ---- registers

  registers_are : AreItems (registers_of d) (register_places (layout_of d))
  registers_are =
      subst (λ (l : List Item). AreItems l (register_places (layout_of d))) (itself (registers_of d))
      (numbered (λ (x : Item). x) (registers_of d) 0 (length (registers_of d)) Register refl
      (λ j x is. let same : 0 + j ≡ j = omega arith in ap (slice_get (registers_of d)) same ∙ is))

  -- ---- fields

  -- these are the stages from a number on
  abbrev FromStage : ℕ → List (List ℕ) → Type 0
  FromStage s names = (k : ℕ) (name : List ℕ) → slice_get names k ≡ Some name → slice_get (stages d) (s + k) ≡ Some name

  next_stages : (s : ℕ) (a : List ℕ) (names : List (List ℕ)) → FromStage s (a ∷ names) → FromStage (s + 1) names
  next_stages s a names from k name e = let same : s + 1 + k ≡ s + suc k = omega arith in ap (slice_get (stages d)) same ∙ from (suc k) name e

  first_stage : (s : ℕ) (a : List ℕ) (names : List (List ℕ)) → FromStage s (a ∷ names) → slice_get (stages d) s ≡ Some a
  first_stage s a names from = let same : s ≡ s + 0 = omega arith in ap (slice_get (stages d)) same ∙ from 0 a refl

  field_is : (s f : ℕ) (a b : List ℕ) (x : Shape × List ℕ) → slice_get (stages d) s ≡ Some a → slice_get (stages d) (s + 1) ≡ Some b → slice_get (fields d) f ≡ Some x → item_of d width (Field s f) ≡ Some (field_item a b x)
  field_is s f a b x first second at =
      ap (λ (r : Option (List ℕ)). field_between r (slice_get (stages d) (s + 1)) (slice_get (fields d) f)) first
      ∙ ap (λ (r : Option (List ℕ)). field_between (Some a) r (slice_get (fields d) f)) second
      ∙ ap (λ (r : Option (Shape × List ℕ)). field_between (Some a) (Some b) r) at

  boundaries_are : (names : List (List ℕ)) (s n : ℕ) → n ≡ length names - 1 → FromStage s names → AreItems (boundary_items (fields d) names) (flat_map (boundary_places (layout_of d)) (range_with_len s n))
  boundaries_are [] s zero e from = tt
  boundaries_are [] s (suc n) e from = absurd (omega (arith, e))
  boundaries_are (a ∷ []) s zero e from = tt
  boundaries_are (a ∷ []) s (suc n) e from = absurd (omega (arith, e))
  boundaries_are (a ∷ b ∷ rest) s zero e from = absurd (omega (arith, e))
  boundaries_are (a ∷ b ∷ rest) s (suc n) e from =
      let further = next_stages s a (b ∷ rest) from in
      both_are (map (field_item a b) (fields d)) (boundary_items (fields d) (b ∷ rest)) (boundary_places (layout_of d) s) (flat_map (boundary_places (layout_of d)) (range_with_len (s + 1) n))
      (numbered (field_item a b) (fields d) 0 (length (fields d)) (Field s) refl
      (λ j x is.
      let same : 0 + j ≡ j = omega arith in
      field_is s (0 + j) a b x (first_stage s a (b ∷ rest) from) (first_stage (s + 1) b rest further) (ap (slice_get (fields d)) same ∙ is)))
      (boundaries_are (b ∷ rest) (s + 1) n (omega (arith, e)) further)

  -- ---- bits

  abbrev Stands : ℕ → ℕ → Bool
  Stands t k = option_map_or (has_bit t) (slice_get (occurrences d) k) false

  bit_is : (t k : ℕ) (stage : List ℕ) (x : Occurrence) → slice_get (stages d) t ≡ Some stage → slice_get (occurrences d) k ≡ Some x → item_of d width (Bit t k) ≡ Some (bit_item d stage x k)
  bit_is t k stage x at is = ap (λ (r : Option (List ℕ)). bit_of d k r (slice_get (occurrences d) k)) at ∙ ap (λ (r : Option Occurrence). bit_of d k (Some stage) r) is

  bits_are : (stage : List ℕ) (t : ℕ) → slice_get (stages d) t ≡ Some stage → (xs : List Occurrence) (k n : ℕ) → n ≡ length xs → ((j : ℕ) (x : Occurrence) → slice_get xs j ≡ Some x → slice_get (occurrences d) (k + j) ≡ Some x)
      → AreItems (bits_from d stage t k xs) (map (Bit t) (filter (Stands t) (range_with_len k n)))
  bits_are stage t at [] k zero e from = tt
  bits_are stage t at [] k (suc n) e from = absurd (omega (arith, e))
  bits_are stage t at (x ∷ xs) k zero e from = absurd (omega (arith, e))
  bits_are stage t at (x ∷ xs) k (suc n) e from =
      by (has_bit t x) (Stands t k) (ap (λ (o : Option Occurrence). option_map_or (has_bit t) o false) own)
      (bits_are stage t at xs (k + 1) n (omega (arith, e)) (λ j y is. let same : k + 1 + j ≡ k + suc j = omega arith in ap (slice_get (occurrences d)) same ∙ from (suc j) y is))
    where
      own : slice_get (occurrences d) k ≡ Some x
      own = let same : k ≡ k + 0 = omega arith in ap (slice_get (occurrences d)) same ∙ from 0 x refl

      by : (b c : Bool) → c ≡ b → AreItems (bits_from d stage t (k + 1) xs) (map (Bit t) (filter (Stands t) (range_with_len (k + 1) n)))
          → AreItems (cond b (bit_item d stage x k ∷ []) [] ++ bits_from d stage t (k + 1) xs) (map (Bit t) (cond c (k ∷ filter (Stands t) (range_with_len (k + 1) n)) (filter (Stands t) (range_with_len (k + 1) n))))
      by true true same are = (bit_is t k stage x at own, are)
      by true false same are = absurd (cc same)
      by false true same are = absurd (cc same)
      by false false same are = are

  stages_are : (names : List (List ℕ)) (t n : ℕ) → n ≡ length names → FromStage t names → AreItems (bit_items d (occurrences d) t names) (flat_map (stage_places (layout_of d)) (range_with_len t n))
  stages_are [] t zero e from = tt
  stages_are [] t (suc n) e from = absurd (omega (arith, e))
  stages_are (a ∷ names) t zero e from = absurd (omega (arith, e))
  stages_are (a ∷ names) t (suc n) e from =
      both_are (bits_from d a t 0 (occurrences d)) (bit_items d (occurrences d) (t + 1) names) (stage_places (layout_of d) t) (flat_map (stage_places (layout_of d)) (range_with_len (t + 1) n))
      (bits_are a t (first_stage t a names from) (occurrences d) 0 (length (occurrences d)) refl (λ j x is. let same : 0 + j ≡ j = omega arith in ap (slice_get (occurrences d)) same ∙ is))
      (stages_are names (t + 1) n (omega (arith, e)) (next_stages t a names from))

-- ---- words

module _ (d : DescriptionTree) where
  words_are : (width choice root : Option ℕ) → (width ≡ None → choice ≡ None) → ((w : ℕ) → width ≡ Some w → (c : ℕ) × (choice ≡ Some c)) → AreItems d width (word_items (stages d) width root) (words_from (length (stages d)) (first_word choice root))
  words_are None choice root none some = subst (λ (c : Option ℕ). AreItems d None [] (words_from (length (stages d)) (first_word c root))) (sym (none refl)) tt
  words_are (Some w) choice root none some =
      let c = some w refl in
      subst (λ (o : Option ℕ). AreItems d (Some w) (word_items (stages d) (Some w) root) (words_from (length (stages d)) (first_word o root))) (sym c.1) (by c.0 root)
    where
      by : (c : ℕ) (r : Option ℕ) → AreItems d (Some w) (word_items (stages d) (Some w) r) (words_from (length (stages d)) (first_word (Some c) r))
      by c None = tt
      by c (Some s) =
          numbered d (Some w) (word_item w) (drop (s + 1) (stages d)) (s + 1) (length (stages d) - (s + 1)) Word (sym (length-drop (s + 1) (stages d)))
          (λ j x is. ap (λ (r : Option (List ℕ)). word_of (Some w) r) (drop_is (s + 1) (stages d) j x is))

  -- ---- all of them

  pub all_are : (width : Option ℕ) → HasWidth d width → AreItems d width (items d width) (item_places (layout_of d))
  all_are width has =
      let l = layout_of d in
      let all = occurrences d in
      let bounds = boundary_items (fields d) (stages d) in
      let named = word_items (stages d) width (root_stage d all) in
      let marks = bit_items d all 0 (stages d) in
      both_are d width (registers_of d) (bounds ++ (named ++ marks)) (register_places l) (field_places l ++ (word_places l ++ bit_places l)) (registers_are d width)
      (both_are d width bounds (named ++ marks) (field_places l) (word_places l ++ bit_places l) (boundaries_are d width (stages d) 0 (length (stages d) - 1) refl from_first)
      (both_are d width named marks (word_places l) (bit_places l) (words_are width (instruction_choice d) (root_stage d all) (no_choice width has) (some_choice width has))
      (stages_are d width (stages d) 0 (length (stages d)) refl from_first)))
    where
      from_first : (k : ℕ) (name : List ℕ) → slice_get (stages d) k ≡ Some name → slice_get (stages d) (0 + k) ≡ Some name
      from_first k name e = let same : 0 + k ≡ k = omega arith in ap (slice_get (stages d)) same ∙ e

      no_choice : (o : Option ℕ) → HasWidth d o → o ≡ None → instruction_choice d ≡ None
      no_choice None h e = h
      no_choice (Some w) h e = absurd (cc e)

      some_choice : (o : Option ℕ) → HasWidth d o → (w : ℕ) → o ≡ Some w → (c : ℕ) × (instruction_choice d ≡ Some c)
      some_choice None h w e = absurd (cc e)
      some_choice (Some v) h w e = (h.0, h.1)

  pub has_item : (width : Option ℕ) → HasWidth d width → (i : ℕ) (p : ItemPlace) → slice_get (item_places (layout_of d)) i ≡ Some p → HasItem d width i p
  has_item width has i p e = let x = item_there d width (items d width) (item_places (layout_of d)) (all_are width has) i p e in record { item = x.0; is = x.1; stands = x.2 }
