-- Types of resources have widths that words have, and what a moment that fits holds is within them.
use Rattle.std.proofs.Common.{◌≡◌, ◌<◌, ◌≤◌, ◌^◌, ◌∙◌, ℕ, zero, suc, List, [], ◌∷◌, Option, None, Some, length, get_or, take, refl, sym, ap, subst, arith}
use Rattle.std.specs.Prelude.{filter_map, slice_get, option_map, IfSome}
use Rattle.std.specs.List.{AllByRecursion, cons_option}
use Rattle.std.proofs.lemmas.Option.{same_Some, slice_get-get_or, slice_get_within}
use Rattle.lisa_tree.specs.declared.tokens.Shape.{Shape}
use Rattle.lisa_tree.specs.Descriptions as trees
use Rattle.lisa_tree.specs.Descriptions.{ResourceTree, DescriptionTree}
use Rattle.lisa_tree.specs.declared.descriptions.RegisterWord.{RegisterWord}
use Rattle.lisa_engine.specs.declared.parts.Item.{Item}
use Rattle.lisa_engine.specs.declared.parts.ArrayItem.{ArrayItem}
use Rattle.lisa_engine.specs.Shape.{IsFitting}
use Rattle.lisa_tree.specs.Resources.{fields_in}
use Rattle.lisa_meaning.specs.machine_parts.Parts.{array, item, array_in, arrays_of, pin_in, pins_of, register_in, registers_of}
use Rattle.lisa_meaning.specs.lisa_machine.Verdicts.{IsAccepted}
use Rattle.lisa_meaning.specs.lisa_machine.Resolving.{IsWidth, FitsResource}
use Rattle.lisa_meaning.proofs.lisa_machine_proofs.Sound.{sound}
use Rattle.lisa_meaning.proofs.lisa_machine_proofs.Resolved.{resource_fits}
use Rattle.lisa_meaning.specs.Values as values
use Rattle.scene_paths.specs.declared.array.Array.{Array}
use Rattle.scene_paths.specs.declared.array.ArrayType.{ArrayType}
use Rattle.scene_paths.specs.Lookups.{array_of, array_type}
use Rattle.lisa_meaning.specs.Values.{place_among, register_place, array_place, pin_place, shape_at}

-- ---- widths

fields_wide : (rs : List ResourceTree) → ((k : ℕ) (r : ResourceTree) → slice_get rs k ≡ Some r → FitsResource r) → AllByRecursion (λ (field : Shape × List ℕ). IsWidth field.0.width) (fields_in rs)
fields_wide [] fit = tt
fields_wide (trees.Register word shape name depth ∷ rs) fit = fields_wide rs (λ k. fit (suc k))
fields_wide (trees.Clocked word shape name ∷ rs) fit = fields_wide rs (λ k. fit (suc k))
fields_wide (trees.Memory word shape name depth ∷ rs) fit = fields_wide rs (λ k. fit (suc k))
fields_wide (trees.Pin shape name ∷ rs) fit = fields_wide rs (λ k. fit (suc k))
fields_wide (trees.Pipeline name stages ∷ rs) fit = fields_wide rs (λ k. fit (suc k))
fields_wide (trees.Fields pipe fields ∷ rs) fit = fit 0 (trees.Fields pipe fields) refl

field_wide : (all : List (Shape × List ℕ)) (f : ℕ) (shape : Shape) → AllByRecursion (λ (field : Shape × List ℕ). IsWidth field.0.width) all → option_map (λ (field : Shape × List ℕ). field.0) (slice_get all f) ≡ Some shape → IsWidth shape.width
field_wide [] f shape wide e = absurd (cc e)
field_wide (x ∷ xs) zero shape wide e = subst (λ (s : Shape). IsWidth s.width) (same_Some x.0 shape e) wide.0
field_wide (x ∷ xs) (suc f) shape wide e = field_wide xs f shape wide.1 e

module _ (d : DescriptionTree) (accepted : IsAccepted d) where
  pub fits : (k : ℕ) (r : ResourceTree) → slice_get d.resources k ≡ Some r → FitsResource r
  fits k r is = let w = sound d accepted in resource_fits d w.widths w.depths k r is

  pub shape_fits : (f : ℕ) (shape : Shape) → shape_at d f ≡ Some shape → IsWidth shape.width
  shape_fits f shape e = field_wide (fields_in d.resources) f shape (fields_wide d.resources fits) e

-- ---- where resources stand

pub placed : {P : Type 0} (part : ResourceTree → Option P) (rs : List ResourceTree) (k : ℕ) (r : ResourceTree) (p : P) → slice_get rs k ≡ Some r → part r ≡ Some p
    → slice_get (filter_map part rs) (length (filter_map part (take k rs))) ≡ Some p
placed part [] k r p e f = absurd (cc e)
placed {P = P} part (x ∷ rs) zero r p e f = ap (λ (o : Option P). slice_get (cons_option o (filter_map part rs)) 0) (ap part (same_Some x r e) ∙ f)
placed {P = P} part (x ∷ rs) (suc k) r p e f = by (part x) (placed part rs k r p e f)
  where
    by : (o : Option P) → slice_get (filter_map part rs) (length (filter_map part (take k rs))) ≡ Some p → slice_get (cons_option o (filter_map part rs)) (length (cons_option o (filter_map part (take k rs)))) ≡ Some p
    by None h = h
    by (Some y) h = h

-- ---- what is held

-- an item of a list is within its width
held : (items : List Item) (vs : List ℕ) (p : ℕ) (i : Item) → IsFitting items vs → slice_get items p ≡ Some i → get_or vs p 0 < 2 ^ i.width
held items vs p i fit is =
    let inside = slice_get_within items p i is in
    let same : i ≡ get_or items p i = same_Some i (get_or items p i) (sym is ∙ slice_get-get_or items p i inside) in
    subst (λ (x : Item). get_or vs p 0 < 2 ^ x.width) (sym same) (fit.within p i inside)

module _ (d : DescriptionTree) (vs : List ℕ) (k : ℕ) where
  pub register_held : (word : RegisterWord) (shape : Shape) (name : List ℕ) → IsFitting (registers_of d) vs → slice_get d.resources k ≡ Some (trees.Register word shape name None) → get_or vs (register_place d k) 0 < 2 ^ shape.width
  register_held word shape name fit is = held (registers_of d) vs (register_place d k) (item shape name) fit (placed register_in d.resources k (trees.Register word shape name None) (item shape name) is refl)

  pub clocked_held : (word : RegisterWord) (shape : Shape) (name : List ℕ) → IsFitting (registers_of d) vs → slice_get d.resources k ≡ Some (trees.Clocked word shape name) → get_or vs (register_place d k) 0 < 2 ^ shape.width
  clocked_held word shape name fit is = held (registers_of d) vs (register_place d k) (item shape name) fit (placed register_in d.resources k (trees.Clocked word shape name) (item shape name) is refl)

  pub pin_held : (shape : Shape) (name : List ℕ) → IsFitting (pins_of d) vs → slice_get d.resources k ≡ Some (trees.Pin shape name) → get_or vs (pin_place d k) 0 < 2 ^ shape.width
  pin_held shape name fit is = held (pins_of d) vs (pin_place d k) (item shape name) fit (placed pin_in d.resources k (trees.Pin shape name) (item shape name) is refl)

-- the array of a resource is as wide as the machine shows it
pub array_wide : (d : DescriptionTree) (k : ℕ) (r : ResourceTree) (it one : ArrayItem) → slice_get d.resources k ≡ Some r → array_in r ≡ Some it → (get_or (arrays_of d) (array_place d k) one).width ≡ it.width
array_wide d k r it one is part =
    let there = placed array_in d.resources k r it is part in
    let low = slice_get_within (arrays_of d) (array_place d k) it there in
    let same : it ≡ get_or (arrays_of d) (array_place d k) one = same_Some it (get_or (arrays_of d) (array_place d k) one) (sym there ∙ slice_get-get_or (arrays_of d) (array_place d k) one low) in
    sym (ap (λ (x : ArrayItem). x.width) same)

-- ---- types of arrays

module _ (d : DescriptionTree) (accepted : IsAccepted d) (k : ℕ) (t : ArrayType) where
  record Fit (shape : Shape) (depth : ℕ) : Type 0 where
    least : 1 ≤ shape.width
    most : shape.width ≤ 64
    deep : 1 ≤ depth

  type_fit : (r : ResourceTree) → slice_get d.resources k ≡ Some r → array_type r ≡ Some t → Fit t.shape t.depth
  type_fit (trees.Register word shape name None) there is = absurd (cc is)
  type_fit (trees.Register word shape name (Some depth)) there is =
      let held = fits d accepted k (trees.Register word shape name (Some depth)) there in
      let two = held.1.1 in
      subst (λ (x : ArrayType). Fit x.shape x.depth) (same_Some (record { shape = shape; depth = depth }) t is) (record { least = held.0.0; most = held.0.1; deep = omega (arith, two) })
  type_fit (trees.Clocked word shape name) there is = absurd (cc is)
  type_fit (trees.Memory word shape name depth) there is =
      let held = fits d accepted k (trees.Memory word shape name depth) there in
      let two = held.1.1 in
      subst (λ (x : ArrayType). Fit x.shape x.depth) (same_Some (record { shape = shape; depth = depth }) t is) (record { least = held.0.0; most = held.0.1; deep = omega (arith, two) })
  type_fit (trees.Pin shape name) there is = absurd (cc is)
  type_fit (trees.Pipeline name stages) there is = absurd (cc is)
  type_fit (trees.Fields pipe fields) there is = absurd (cc is)

  pub type_least : (r : ResourceTree) → slice_get d.resources k ≡ Some r → array_type r ≡ Some t → 1 ≤ t.shape.width
  type_least r there is = (type_fit r there is).least

  pub type_most : (r : ResourceTree) → slice_get d.resources k ≡ Some r → array_type r ≡ Some t → t.shape.width ≤ 64
  type_most r there is = (type_fit r there is).most

  pub type_deep : (r : ResourceTree) → slice_get d.resources k ≡ Some r → array_type r ≡ Some t → 1 ≤ t.depth
  type_deep r there is = (type_fit r there is).deep

-- an array of this type, at its place
abbrev pub placed_array : DescriptionTree → ℕ → Option ArrayType → Option values.Array
placed_array d k t = option_map (λ (x : ArrayType). record { place = array_place d k; shape = x.shape; depth = x.depth }) t

by_type : (d : DescriptionTree) (k : ℕ) (r : ResourceTree) → placed_array d k (array_type r) ≡ values.array_of d k (Some r)
by_type d k (trees.Register word shape name None) = refl
by_type d k (trees.Register word shape name (Some depth)) = refl
by_type d k (trees.Clocked word shape name) = refl
by_type d k (trees.Memory word shape name depth) = refl
by_type d k (trees.Pin shape name) = refl
by_type d k (trees.Pipeline name stages) = refl
by_type d k (trees.Fields pipe fields) = refl

pub array_made : (d : DescriptionTree) (k : ℕ) (r : ResourceTree) (t : Option ArrayType) → slice_get d.resources k ≡ Some r → array_type r ≡ t → placed_array d k t ≡ values.array_of d k (slice_get d.resources k)
array_made d k r t there is = sym (ap (placed_array d k) is) ∙ by_type d k r ∙ sym (ap (values.array_of d k) there)

abbrev pub placed_one : ArrayType → ℕ → Option values.Array
placed_one t p = Some (record { place = p; shape = t.shape; depth = t.depth })

pub array_read : (d : DescriptionTree) (k : ℕ) (r : ResourceTree) (t : ArrayType) (p : ℕ) → slice_get d.resources k ≡ Some r → array_type r ≡ Some t → p ≡ array_place d k → placed_one t p ≡ values.array_of d k (slice_get d.resources k)
array_read d k r t p there is at = ap (placed_one t) at ∙ array_made d k r (Some t) there is

pub number_within : (d : DescriptionTree) (k : ℕ) (r : ResourceTree) → slice_get d.resources k ≡ Some r → k < length d.resources
number_within d k r is = slice_get_within d.resources k r is

-- an array is as wide as the machine shows it
pub array_shown : (d : DescriptionTree) (k : ℕ) (found : Option Array) → option_map array_of found ≡ values.array_of d k (slice_get d.resources k) → IfSome found (λ (a : Array). (one : ArrayItem) → (get_or (arrays_of d) a.place one).width ≡ a.shape.width)
array_shown d k None e = tt
array_shown d k (Some a) e = by (slice_get d.resources k) refl e
  where
    same : (shape : Shape) (depth : ℕ) → Some (array_of a) ≡ Some (record { place = array_place d k; shape = shape; depth = depth }) → (r : ResourceTree) (name : List ℕ) → slice_get d.resources k ≡ Some r → array_in r ≡ Some (array shape name depth)
        → (one : ArrayItem) → (get_or (arrays_of d) a.place one).width ≡ a.shape.width
    same shape depth is r name there part one =
        let eq : array_of a ≡ record { place = array_place d k; shape = shape; depth = depth } = same_Some (array_of a) (record { place = array_place d k; shape = shape; depth = depth }) is in
        ap (λ (x : values.Array). (get_or (arrays_of d) x.place one).width) eq ∙ array_wide d k r (array shape name depth) one there part ∙ sym (ap (λ (x : values.Array). x.shape.width) eq)

    by : (o : Option ResourceTree) → slice_get d.resources k ≡ o → Some (array_of a) ≡ values.array_of d k o → (one : ArrayItem) → (get_or (arrays_of d) a.place one).width ≡ a.shape.width
    by None there is = absurd (cc is)
    by (Some (trees.Register word shape name None)) there is = absurd (cc is)
    by (Some (trees.Register word shape name (Some depth))) there is = same shape depth is (trees.Register word shape name (Some depth)) name there refl
    by (Some (trees.Clocked word shape name)) there is = absurd (cc is)
    by (Some (trees.Memory word shape name depth)) there is = same shape depth is (trees.Memory word shape name depth) name there refl
    by (Some (trees.Pin shape name)) there is = absurd (cc is)
    by (Some (trees.Pipeline name stages)) there is = absurd (cc is)
    by (Some (trees.Fields pipe fields)) there is = absurd (cc is)
