-- Items, cells and pins have widths of words, and there is no more of anything than there may be.
use Rattle.std.proofs.Common.{◌≡◌, ◌+◌, ℕ, suc, Bool, true, false, cond, List, [], ◌∷◌, ◌++◌, Option, None, Some, map, drop, refl, arith, inl, inr}
use Rattle.std.specs.Prelude.{slice_get, option_map}
use Rattle.std.specs.List.{AllByRecursion}
use Rattle.std.proofs.lemmas.List.Elements.{All-from_recursion}
use Rattle.lisa_tree.specs.declared.tokens.Shape.{Shape}
use Rattle.lisa_tree.specs.Descriptions as trees
use Rattle.lisa_tree.specs.Descriptions.{ResourceTree, DescriptionTree}
use Rattle.lisa_engine.specs.declared.parts.Item.{Item}
use Rattle.lisa_engine.specs.declared.parts.ArrayItem.{ArrayItem}
use Rattle.lisa_engine.specs.Shape.{IsWidth, HaveWidths}
use Rattle.lisa_tree.specs.Resources.{stages, fields, fields_in}
use Rattle.use_promises.specs.machine_parts.Parts.{arrays_of, pins_of, registers_of}
use Rattle.use_promises.specs.lisa_machine.Soundness.{IsSound}
use Rattle.use_promises.specs.lisa_machine.Resolving.{FitsResource}
use Rattle.use_promises.proofs.lisa_machine_proofs.Resolved.{resource_fits}
use Rattle.use_promises.specs.Showing.{FitsArray, FitsItem, FitsShown}
use Rattle.lisa_forms.specs.activation_trees.declared.parts.Occurrence.{Occurrence}
use Rattle.lisa_forms.specs.activation_trees.Unfolding.{occurrences}
use Rattle.lisa_forms.specs.activation_trees.Items.{boundary_items, root_stage, word_item, word_items, has_bit, bit_item, bits_from, bit_items, field_item}
use Rattle.lisa_forms.specs.coding_checks.Uneven.{IsFirstGroupWidth}
use Rattle.lisa_forms.specs.coding_tables.Instructions.{form_count}
use Rattle.lisa_forms.specs.instruction_forms.Widths.{HasWidth}
use Rattle.lisa_forms.proofs.instruction_forms_proofs.Wide.{small_width}
use Rattle.lisa_forms.specs.description_sizes.Sizes.{items, first_too_many}
use Rattle.lisa_forms.specs.description_sizes.Limits.{fault}
use Rattle.lisa_forms.specs.description_sizes.Laws.{AreWithinLimits}
use Rattle.lisa_forms.proofs.description_sizes_proofs.Limited.{within_limits}
use Rattle.use_promises.specs.lisa_machine.Machines.{IsSpelled}
use Rattle.use_promises.specs.lisa_machine.Verdicts.{Verdict, before}
use Rattle.lisa_forms.proofs.form_promises_proofs.Placed.{some_width}
use Rattle.lisa_forms.specs.Verdicts.{HasForms, from_writings, from_roots, from_sizes, from_texts, IsSizeVerdict}
use Rattle.item_promises.proofs.Apart.{each_append, each_map, each_map_of}

abbrev IsWide : Item → Type 0
IsWide i = IsWidth i.width

-- ---- conditions that aren't broken

passed : {v : Verdict} (w : Verdict) → before v w None → v None × w None
passed w (inl b) = absurd (cc b.is)
passed w (inr h) = h

none_of : {X Y : Type 0} (f : X → Y) (r : Option X) → None ≡ option_map f r → r ≡ None
none_of f None e = refl
none_of f (Some x) e = absurd (cc e)

module _ (d : DescriptionTree) where
  pub even : HasForms d → IsFirstGroupWidth d None
  even h = (passed (from_writings d) h).0

  pub limited : HasForms d → (width : Option ℕ) × HasWidth d width × AreWithinLimits d width (form_count d)
  limited h =
      let a : from_writings d None = (passed (from_writings d) h).1 in
      let b : from_roots d None = (passed (from_roots d) a).1 in
      let c : from_sizes d None = (passed (from_sizes d) b).1 in
      let s : IsSizeVerdict d None = (passed (from_texts d) c).0 in
      (s.width, s.has_width, (within_limits d s.width (form_count d)).0 (none_of fault (first_too_many d s.width (form_count d)) s.is))

  -- ---- widths

  all_of : {X : Type 0} (P : X → Type 0) (xs : List X) → ((k : ℕ) (x : X) → slice_get xs k ≡ Some x → P x) → AllByRecursion P xs
  all_of P [] f = tt
  all_of P (x ∷ xs) f = (f 0 x refl, all_of P xs (λ k y e. f (suc k) y e))

  fields_wide : (all : List ResourceTree) → AllByRecursion FitsResource all → AllByRecursion (λ field. IsWidth field.0.width) (fields_in all)
  fields_wide [] h = tt
  fields_wide (trees.Register word shape n depth ∷ rest) h = fields_wide rest h.1
  fields_wide (trees.Clocked word shape n ∷ rest) h = fields_wide rest h.1
  fields_wide (trees.Memory word shape n depth ∷ rest) h = fields_wide rest h.1
  fields_wide (trees.Pin shape n ∷ rest) h = fields_wide rest h.1
  fields_wide (trees.Pipeline n names ∷ rest) h = fields_wide rest h.1
  fields_wide (trees.Fields pipe all ∷ rest) h = h.0

  boundaries_wide : (all : List (Shape × List ℕ)) → AllByRecursion (λ field. IsWidth field.0.width) all → (names : List (List ℕ)) → AllByRecursion IsWide (boundary_items all names)
  boundaries_wide all h [] = tt
  boundaries_wide all h (a ∷ []) = tt
  boundaries_wide all h (a ∷ b ∷ rest) =
      each_append IsWide (map (field_item a b) all) (boundary_items all (b ∷ rest)) (each_map_of (λ field. IsWidth field.0.width) IsWide (field_item a b) (λ f w. w) all h) (boundaries_wide all h (b ∷ rest))

  words_wide : (names : List (List ℕ)) (width root : Option ℕ) → ((w : ℕ) → width ≡ Some w → IsWidth w) → AllByRecursion IsWide (word_items names width root)
  words_wide names None root h = tt
  words_wide names (Some w) None h = tt
  words_wide names (Some w) (Some s) h = each_map IsWide (word_item w) (λ n. h w refl) (drop (s + 1) names)

  stage_wide : (stage : List ℕ) (t k : ℕ) (all : List Occurrence) → AllByRecursion IsWide (bits_from d stage t k all)
  stage_wide stage t k [] = tt
  stage_wide stage t k (x ∷ rest) = each_append IsWide (cond (has_bit t x) (bit_item d stage x k ∷ []) []) (bits_from d stage t (k + 1) rest) (one (has_bit t x)) (stage_wide stage t (k + 1) rest)
    where
      one : (b : Bool) → AllByRecursion IsWide (cond b (bit_item d stage x k ∷ []) [])
      one true = ((omega arith, omega arith), tt)
      one false = tt

  bits_wide : (t : ℕ) (names : List (List ℕ)) → AllByRecursion IsWide (bit_items d (occurrences d) t names)
  bits_wide t [] = tt
  bits_wide t (s ∷ rest) = each_append IsWide (bits_from d s t 0 (occurrences d)) (bit_items d (occurrences d) (t + 1) rest) (stage_wide s t 0 (occurrences d)) (bits_wide (t + 1) rest)

  arrays_wide : (all : List ArrayItem) → AllByRecursion FitsArray all → AllByRecursion (λ a. IsWidth a.width) all
  arrays_wide [] h = tt
  arrays_wide (a ∷ all) h = (h.0.0, arrays_wide all h.1)

  items_wide : (all : List Item) → AllByRecursion FitsItem all → AllByRecursion IsWide all
  items_wide [] h = tt
  items_wide (a ∷ all) h = (h.0, items_wide all h.1)

  word_wide : IsSound d → IsSpelled d → IsFirstGroupWidth d None → (width : Option ℕ) → HasWidth d width → (w : ℕ) → width ≡ Some w → IsWidth w
  word_wide sound spelled first None has w is = absurd (cc is)
  word_wide sound spelled first (Some v) has w is =
      let least = some_width d sound spelled first v has in
      let most = small_width d has.0 v has.1 has.2 in
      let same : v ≡ w = cc is in
      (omega (arith, least, same), omega (arith, most, same))

  pub widths_fit : (width : Option ℕ) → IsSound d → FitsShown d → IsSpelled d → HasForms d → HasWidth d width → HaveWidths (items d width) (arrays_of d) (pins_of d)
  widths_fit width sound shows spelled has given =
      let resources = all_of FitsResource d.resources (resource_fits d sound.widths sound.depths) in
      let bound = boundary_items (fields d) (stages d) in
      let words = word_items (stages d) width (root_stage d (occurrences d)) in
      let bits = bit_items d (occurrences d) 0 (stages d) in
      let all : AllByRecursion IsWide (registers_of d ++ (bound ++ (words ++ bits))) =
      each_append IsWide (registers_of d) (bound ++ (words ++ bits)) (items_wide (registers_of d) shows.registers)
      (each_append IsWide bound (words ++ bits) (boundaries_wide (fields d) (fields_wide d.resources resources) (stages d))
      (each_append IsWide words bits (words_wide (stages d) width (root_stage d (occurrences d)) (word_wide sound spelled (even has) width given)) (bits_wide 0 (stages d)))) in
      record {
        of_items = All-from_recursion IsWide (items d width) all;
        of_arrays = All-from_recursion (λ (a : ArrayItem). IsWidth a.width) (arrays_of d) (arrays_wide (arrays_of d) shows.arrays);
        of_pins = All-from_recursion IsWide (pins_of d) (items_wide (pins_of d) shows.pins);
      }
