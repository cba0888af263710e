-- Where the resources of an accepted description stand, and how wide they are.
use Rattle.std.proofs.Common.{◌≡◌, ◌<◌, ◌+◌, ◌∙◌, ℕ, zero, suc, List, [], ◌∷◌, Option, None, Some, length, map, get_or, refl, ap, subst, arith}
use Rattle.std.specs.Prelude.{slice_get, slice_index, option_map}
use Rattle.std.specs.List.{AllByRecursion}
use Rattle.std.specs.Option.{option_map_or}
use Rattle.std.proofs.lemmas.Option.{same_Some, slice_get_within, get_or_from_slice_get, slice_get-get_or, slice_get-map}
use Rattle.lisa_tree.specs.declared.tokens.Shape.{Shape}
use Rattle.lisa_tree.specs.Descriptions as trees
use Rattle.lisa_tree.specs.Descriptions.{ResourceTree, OperationTree, DescriptionTree}
use Rattle.lisa_engine.specs.declared.parts.Item.{Item}
use Rattle.lisa_engine.specs.declared.parts.ArrayItem.{ArrayItem}
use Rattle.lisa_tree.specs.declared.declared.Meaning.{Meaning}
use Rattle.lisa_tree.specs.declared.declared.Meaning.TheVariants as meanings
use Rattle.lisa_tree.specs.Same.{same_name}
use Rattle.lisa_tree.specs.Resources.{stages, fields, fields_in, stage_at}
use Rattle.lisa_tree.specs.Operations.{operation_at, own_stage}
use Rattle.lisa_tree.specs.Meanings.{meaning}
use Rattle.meaning_promises.specs.lisa_machine.Verdicts.{IsAccepted}
use Rattle.meaning_promises.specs.lisa_machine.Resolving.{IsWidth, IsDepth, FitsResource}
use Rattle.meaning_promises.proofs.lisa_machine_proofs.Decoding.{position_there}
use Rattle.meaning_promises.proofs.lisa_machine_proofs.Resolved.{resource_fits}
use Rattle.meaning_promises.proofs.lisa_machine_proofs.Sound.{sound}
use Rattle.meaning_promises.specs.machine_parts.Parts.{array, array_in, arrays_of, pins_of, registers_of}
use Rattle.step_program.specs.Programs.{Program}
use Rattle.step_program.specs.Effects.{item_width, pin_width, array_width, array_depth}
use Rattle.scene_paths.specs.lisa_meaning.Values.{Array, array_place, array_of, meant_array, named_array, field_place, shape_at, stage_before}
use Rattle.meaning_promises.proofs.Fitted.{placed}
use Rattle.lowered_resources.specs.Places.{Places, IsThere, IsLevel, field_width, ArePlaced}

-- ---- stages and fields

module _ (d : DescriptionTree) where
  pub stage_low : (n : List ℕ) (s : ℕ) → stage_at d n ≡ Some s → s < length (stages d)
  stage_low n s e = let p = position_there (same_name n) (stages d) s e in slice_get_within (stages d) s p.0 p.1

  pub stage_level : (n : List ℕ) (s : ℕ) → stage_at d n ≡ Some s → IsLevel d (suc s)
  stage_level n s e = let low = stage_low n s e in (omega arith, omega (arith, low))

  pub field_low : (n : List ℕ) (f : ℕ) → field_place d n ≡ Some f → f < length (fields d)
  field_low n f e = let p = position_there (λ (field : Shape × List ℕ). same_name n field.1) (fields d) f e in slice_get_within (fields d) f p.0 p.1

  -- the own stage of an operation is one of the pipeline's
  own_low : (o s : ℕ) → own_stage d o ≡ Some s → s < length (stages d)
  own_low o s e = by (operation_at d o) refl
    where
      of_stage : (operation : OperationTree) → operation_at d o ≡ Some operation → (r : Option (List ℕ × List ℕ)) → operation.stage ≡ r → s < length (stages d)
      of_stage operation is None none = absurd (cc (is, none, e))
      of_stage operation is (Some named) some = stage_low named.1 s (stage_is operation is named some)
        where
          stage_is : (operation : OperationTree) → operation_at d o ≡ Some operation → (named : List ℕ × List ℕ) → operation.stage ≡ Some named → stage_at d named.1 ≡ Some s
          stage_is operation is named some = cc (is, some, e)

      by : (r : Option OperationTree) → operation_at d o ≡ r → s < length (stages d)
      by None none = absurd (cc (none, e))
      by (Some operation) is = of_stage operation is operation.stage refl

  -- there is a boundary before each stage but the first
  pub before_there : (o : ℕ) (field : List ℕ) → IsThere d (stage_before (own_stage d o)) (field_place d field)
  before_there o field s f e g = (by (own_stage d o) refl e, field_low field f g)
    where
      by : (r : Option ℕ) → own_stage d o ≡ r → stage_before r ≡ Some s → s + 1 < length (stages d)
      by None is at = absurd (cc at)
      by (Some zero) is at = absurd (cc at)
      by (Some (suc t)) is at =
          let low = own_low o (suc t) is in
          let same : t ≡ s = same_Some t s at in
          omega (arith, low, same)

  pub field_wide : (f : ℕ) (shape : Shape) → shape_at d f ≡ Some shape → field_width d f ≡ shape.width
  field_wide f shape e = by (slice_get (fields d) f) e
    where
      by : (r : Option (Shape × List ℕ)) → option_map (λ (field : Shape × List ℕ). field.0) r ≡ Some shape → option_map_or (λ (field : Shape × List ℕ). field.0.width) r 1 ≡ shape.width
      by None at = absurd (cc at)
      by (Some x) at = ap (λ (s : Shape). s.width) (same_Some x.0 shape at)

-- ---- widths and depths

fields_sized : (rs : List ResourceTree) → ((k : ℕ) (r : ResourceTree) → slice_get rs k ≡ Some r → FitsResource r) → AllByRecursion (λ (field : Shape × List ℕ). IsWidth field.0.width) (fields_in rs)
fields_sized [] fit = tt
fields_sized (trees.Register word shape name depth ∷ rs) fit = fields_sized rs (λ k. fit (suc k))
fields_sized (trees.Clocked word shape name ∷ rs) fit = fields_sized rs (λ k. fit (suc k))
fields_sized (trees.Memory word shape name depth ∷ rs) fit = fields_sized rs (λ k. fit (suc k))
fields_sized (trees.Pin shape name ∷ rs) fit = fields_sized rs (λ k. fit (suc k))
fields_sized (trees.Pipeline name stages ∷ rs) fit = fields_sized rs (λ k. fit (suc k))
fields_sized (trees.Fields pipe fields ∷ rs) fit = fit 0 (trees.Fields pipe fields) refl

field_sized : (all : List (Shape × List ℕ)) (f : ℕ) (shape : Shape) → AllByRecursion (λ (field : Shape × List ℕ). IsWidth field.0.width) all
    → option_map (λ (field : Shape × List ℕ). field.0) (slice_get all f) ≡ Some shape → IsWidth shape.width
field_sized [] f shape wide e = absurd (cc e)
field_sized (x ∷ xs) zero shape wide e = subst (λ (s : Shape). IsWidth s.width) (same_Some x.0 shape e) wide.0
field_sized (x ∷ xs) (suc f) shape wide e = field_sized xs f shape wide.1 e

-- an array of the description: what the machine shows of it
pub record IsArray (d : DescriptionTree) (a : Array) : Type 0 where
  pub shown : ArrayItem
  pub at : slice_get (arrays_of d) a.place ≡ Some shown
  pub wide : shown.width ≡ a.shape.width
  pub deep : shown.depth ≡ a.depth
  pub sized : IsWidth a.shape.width
  pub depth : IsDepth a.depth

module _ (d : DescriptionTree) (accepted : IsAccepted d) where
  pub fits : (k : ℕ) (r : ResourceTree) → slice_get d.resources k ≡ Some r → FitsResource r
  fits k r is = let s = sound d accepted in resource_fits d s.widths s.depths k r is

  pub shape_sized : (f : ℕ) (shape : Shape) → shape_at d f ≡ Some shape → IsWidth shape.width
  shape_sized f shape e = field_sized (fields d) f shape (fields_sized d.resources fits) e

  shown_array : (k : ℕ) (r : ResourceTree) (shape : Shape) (name : List ℕ) (depth : ℕ) → slice_get d.resources k ≡ Some r → array_in r ≡ Some (array shape name depth) → IsWidth shape.width → IsDepth depth
      → IsArray d (record { place = array_place d k; shape = shape; depth = depth })
  shown_array k r shape name depth is part wide depths = record {
    shown = array shape name depth;
    at = placed array_in d.resources k r (array shape name depth) is part;
    wide = refl;
    deep = let most = depths.2 in omega (arith, most);
    sized = wide;
    depth = depths;
  }

  array_is : (k : ℕ) (r : Option ResourceTree) (a : Array) → slice_get d.resources k ≡ r → array_of d k r ≡ Some a → IsArray d a
  array_is k None a e f = absurd (cc f)
  array_is k (Some (trees.Register word shape name None)) a e f = absurd (cc f)
  array_is k (Some (trees.Register word shape name (Some depth))) a e f =
      let fit : FitsResource (trees.Register word shape name (Some depth)) = fits k (trees.Register word shape name (Some depth)) e in
      subst (IsArray d) (same_Some (record { place = array_place d k; shape = shape; depth = depth }) a f)
      (shown_array k (trees.Register word shape name (Some depth)) shape name depth e refl fit.0 fit.1)
  array_is k (Some (trees.Clocked word shape name)) a e f = absurd (cc f)
  array_is k (Some (trees.Memory word shape name depth)) a e f =
      let fit : FitsResource (trees.Memory word shape name depth) = fits k (trees.Memory word shape name depth) e in
      subst (IsArray d) (same_Some (record { place = array_place d k; shape = shape; depth = depth }) a f)
      (shown_array k (trees.Memory word shape name depth) shape name depth e refl fit.0 fit.1)
  array_is k (Some (trees.Pin shape name)) a e f = absurd (cc f)
  array_is k (Some (trees.Pipeline name stages)) a e f = absurd (cc f)
  array_is k (Some (trees.Fields pipe fields)) a e f = absurd (cc f)

  meant_is : (w : Meaning) (a : Array) → meant_array d w ≡ Some a → IsArray d a
  meant_is meanings.Nothing a e = absurd (cc e)
  meant_is (meanings.Resource k) a e = array_is k (slice_get d.resources k) a refl e
  meant_is (meanings.Declared i) a e = absurd (cc e)

  pub named_is : (o : ℕ) (n : List ℕ) (a : Array) → named_array d o n ≡ Some a → IsArray d a
  named_is o n a e = meant_is (meaning d o n) a e

-- ---- in a program

no_item : Item
no_item = record { name = []; width = 0 }

got_item : (items : List Item) (k : ℕ) (i : Item) → slice_get items k ≡ Some i → slice_index (map (λ (item : Item). item.width) items) k ≡ i.width
got_item items k i at =
    get_or_from_slice_get (map (λ (item : Item). item.width) items) k i.width 0 (slice_get-map (λ (item : Item). item.width) items k ∙ ap (option_map (λ (item : Item). item.width)) at)

got_width : (all : List ArrayItem) (k : ℕ) (a : ArrayItem) → slice_get all k ≡ Some a → slice_index (map (λ (array : ArrayItem). array.width) all) k ≡ a.width
got_width all k a at =
    get_or_from_slice_get (map (λ (array : ArrayItem). array.width) all) k a.width 0 (slice_get-map (λ (array : ArrayItem). array.width) all k ∙ ap (option_map (λ (array : ArrayItem). array.width)) at)

got_depth : (all : List ArrayItem) (k : ℕ) (a : ArrayItem) → slice_get all k ≡ Some a → slice_index (map (λ (array : ArrayItem). array.depth) all) k ≡ a.depth
got_depth all k a at =
    get_or_from_slice_get (map (λ (array : ArrayItem). array.depth) all) k a.depth 0 (slice_get-map (λ (array : ArrayItem). array.depth) all k ∙ ap (option_map (λ (array : ArrayItem). array.depth)) at)

module _ (d : DescriptionTree) (places : Places) (p : Program) (first lasts : ℕ) (are : ArePlaced d places p first lasts) where
  pub register_there : (k : ℕ) (i : Item) → slice_get (registers_of d) k ≡ Some i → (k < length p.items) × (item_width p k ≡ i.width)
  register_there k i at = let there = are.registers k i at in (slice_get_within p.items k i there, got_item p.items k i there)

  pub register_in_items : (k : ℕ) → k < length (registers_of d) → k < length p.items
  register_in_items k low =
      let i = get_or (registers_of d) k no_item in
      slice_get_within p.items k i (are.registers k i (slice_get-get_or (registers_of d) k no_item low))

  pub pin_there : (k : ℕ) (i : Item) → slice_get (pins_of d) k ≡ Some i → (k < length p.pins) × (pin_width p k ≡ i.width)
  pin_there k i at = let there = ap (λ (items : List Item). slice_get items k) are.pins ∙ at in (slice_get_within p.pins k i there, got_item p.pins k i there)

  pub array_there : (a : Array) → IsArray d a → (a.place < length p.arrays) × (array_width p a.place ≡ a.shape.width) × (array_depth p a.place ≡ a.depth)
  array_there a is =
      let there = ap (λ (all : List ArrayItem). slice_get all a.place) are.arrays ∙ is.at in
      (slice_get_within p.arrays a.place is.shown there, got_width p.arrays a.place is.shown there ∙ is.wide, got_depth p.arrays a.place is.shown there ∙ is.deep)
