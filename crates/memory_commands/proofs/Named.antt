-- The memory of a name, looked up among a description's arrays.
use Rattle.std.proofs.Common.{◌≡◌, ◌∙◌, ◌+◌, ◌<◌, ◌≤◌, ℕ, Bool, true, false, cond, List, ◌∷◌, length, drop, get_or, Option, Some, None, refl, sym, ap, subst, arith}
use Rattle.std.specs.Prelude.{find, zip, slice_index_or}
use Rattle.std.specs.Option.{option_map}
use Rattle.std.proofs.lemmas.List.{drop_more, drop_all}
use Rattle.lisa_tree.specs.Descriptions.{DescriptionTree}
use Rattle.lisa_engine.specs.declared.parts.ArrayItem.{ArrayItem}
use Rattle.item_promises.specs.machine_parts.Parts.{arrays_of, memories_of}
use Rattle.item_promises.specs.use_promises.Showing.{FitsArray, FitsShown}
use Rattle.lisa_outcomes.proofs.Told.{none_is_no_some, some_is}
use Rattle.memory_commands.specs.DescriptionMemories.{is_memory_named, memory_named}
use Rattle.memory_commands.proofs.Finds.{found, first_all}

-- the look-up among lists of arrays and of what each is told to be
abbrev pub named_in : List ℕ → List ArrayItem → List Bool → Option ArrayItem
named_in name arrays marks = option_map (λ told. told.0) (find (is_memory_named name) (zip arrays marks))

-- and among those from a place on
abbrev pub named_from : DescriptionTree → List ℕ → ℕ → Option ArrayItem
named_from d name place = named_in name (drop place (arrays_of d)) (drop place (memories_of d))

here : (name : List ℕ) (a : ArrayItem) (m : Bool) (arrays : List ArrayItem) (marks : List Bool) → is_memory_named name (a, m) ≡ true → named_in name (a ∷ arrays) (m ∷ marks) ≡ Some a
here name a m arrays marks e = ap (λ b. option_map (λ told. told.0) (cond b (Some (a, m)) (find (is_memory_named name) (zip arrays marks)))) e

elsewhere : (name : List ℕ) (a : ArrayItem) (m : Bool) (arrays : List ArrayItem) (marks : List Bool) → is_memory_named name (a, m) ≡ false → named_in name (a ∷ arrays) (m ∷ marks) ≡ named_in name arrays marks
elsewhere name a m arrays marks e = ap (λ b. option_map (λ told. told.0) (cond b (Some (a, m)) (find (is_memory_named name) (zip arrays marks)))) e

module _ (d : DescriptionTree) (name : List ℕ) (place : ℕ) (a : ArrayItem) (m : Bool) (told : length (memories_of d) ≡ length (arrays_of d)) (within : place < length (arrays_of d))
    (is : a ≡ get_or (arrays_of d) place a) (marked : m ≡ slice_index_or (memories_of d) place false) where
  step : named_from d name place ≡ named_in name (a ∷ drop (place + 1) (arrays_of d)) (m ∷ drop (place + 1) (memories_of d))
  step =
      ap (λ x. named_in name x (drop place (memories_of d))) (drop_more (arrays_of d) place a within ∙ ap (λ x. x ∷ drop (place + 1) (arrays_of d)) (sym is))
      ∙ ap (named_in name (a ∷ drop (place + 1) (arrays_of d))) (drop_more (memories_of d) place false (omega (arith, within, told)) ∙ ap (λ x. x ∷ drop (place + 1) (memories_of d)) (sym marked))

  pub named_here : is_memory_named name (a, m) ≡ true → named_from d name place ≡ Some a
  named_here e = step ∙ here name a m (drop (place + 1) (arrays_of d)) (drop (place + 1) (memories_of d)) e

  pub named_later : is_memory_named name (a, m) ≡ false → named_from d name place ≡ named_from d name (place + 1)
  named_later e = step ∙ elsewhere name a m (drop (place + 1) (arrays_of d)) (drop (place + 1) (memories_of d)) e

pub named_nowhere : (d : DescriptionTree) (name : List ℕ) (place : ℕ) → length (arrays_of d) ≤ place → named_from d name place ≡ None
named_nowhere d name place all = ap (λ x. named_in name x (drop place (memories_of d))) (drop_all place (arrays_of d) all)

-- ---- what holds of it

pub named_fits : (d : DescriptionTree) (name : List ℕ) (memory : ArrayItem) → FitsShown d → memory_named d name ≡ Some memory → FitsArray memory
named_fits d name memory shown e = by (find (is_memory_named name) (zip (arrays_of d) (memories_of d))) refl e
  where
    by : (o : Option (ArrayItem × Bool)) → find (is_memory_named name) (zip (arrays_of d) (memories_of d)) ≡ o → option_map (λ told. told.0) o ≡ Some memory → FitsArray memory
    by None is h = absurd (none_is_no_some memory h)
    by (Some told) is h = subst FitsArray (some_is h) (found (is_memory_named name) (λ (t : ArrayItem × Bool). FitsArray t.0) (zip (arrays_of d) (memories_of d)) told (first_all FitsArray (arrays_of d) (memories_of d) shown.arrays) is).0
