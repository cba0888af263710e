-- What is assigned to a resource goes to the register that it is.
use Rattle.std.proofs.Common.{◌≡◌, ◌∙◌, ◌<◌, ◌≤◌, ℕ, List, Option, None, Some, length, get_or, refl, sym, ap, subst}
use Rattle.std.specs.Prelude.{slice_get}
use Rattle.std.proofs.lemmas.Option.{same_Some, slice_get-get_or, slice_get_within}
use Rattle.lisa_tree.specs.declared.tokens.Shape.{Shape}
use Rattle.lisa_tree.specs.Descriptions as trees
use Rattle.lisa_tree.specs.Descriptions.{ResourceTree, DescriptionTree}
use Rattle.lisa_engine.specs.declared.parts.Item.{Item}
use Rattle.moment_stores.specs.machine_parts.Parts.{item, register_in, registers_of}
use Rattle.moment_stores.specs.lisa_machine.Verdicts.{IsAccepted}
use Rattle.moment_stores.specs.lisa_machine.Resolving.{IsWidth}
use Rattle.scene_paths.specs.lisa_meaning.Moments.{Moment}
use Rattle.scene_paths.specs.lisa_meaning.Values.{register_place, shape_at}
use Rattle.scene_paths.specs.lisa_meaning.Effects.{Given, bits_for, register_put, resource_put}
use Rattle.scene_paths.proofs.Widths.{fits, placed, shape_fits}
use Rattle.behavior_runs.specs.Registers.{register_shape}

pub number_within : (d : DescriptionTree) (k : ℕ) (r : ResourceTree) → slice_get d.resources k ≡ Some r → k < length d.resources
number_within d k r there = slice_get_within d.resources k r there

-- ---- its type

module _ (d : DescriptionTree) (accepted : IsAccepted d) (k : ℕ) (shape : Shape) where
  of_width : (r : ResourceTree) → slice_get d.resources k ≡ Some r → register_shape r ≡ Some shape → IsWidth shape.width
  of_width (trees.Register word own name None) there is =
      subst (λ (s : Shape). IsWidth s.width) (same_Some own shape is) (fits d accepted k (trees.Register word own name None) there).0
  of_width (trees.Register word own name (Some depth)) there is = absurd (cc is)
  of_width (trees.Clocked word own name) there is =
      subst (λ (s : Shape). IsWidth s.width) (same_Some own shape is) (fits d accepted k (trees.Clocked word own name) there)
  of_width (trees.Memory word own name depth) there is = absurd (cc is)
  of_width (trees.Pin own name) there is = absurd (cc is)
  of_width (trees.Pipeline name stages) there is = absurd (cc is)
  of_width (trees.Fields pipe fields) there is = absurd (cc is)

  pub shape_least : (r : ResourceTree) → slice_get d.resources k ≡ Some r → register_shape r ≡ Some shape → 1 ≤ shape.width
  shape_least r there is = (of_width r there is).0

  pub shape_most : (r : ResourceTree) → slice_get d.resources k ≡ Some r → register_shape r ≡ Some shape → shape.width ≤ 64
  shape_most r there is = (of_width r there is).1

-- ---- what is assigned

abbrev put_shaped : DescriptionTree → ℕ → Option Shape → Given → Moment → Moment
put_shaped d k None given m = m
put_shaped d k (Some shape) given m = register_put (register_place d k) (bits_for shape given) m

by_shape : (d : DescriptionTree) (k : ℕ) (given : Given) (m : Moment) (r : ResourceTree) → resource_put d k (Some r) given m ≡ put_shaped d k (register_shape r) given m
by_shape d k given m (trees.Register word shape name None) = refl
by_shape d k given m (trees.Register word shape name (Some depth)) = refl
by_shape d k given m (trees.Clocked word shape name) = refl
by_shape d k given m (trees.Memory word shape name depth) = refl
by_shape d k given m (trees.Pin shape name) = refl
by_shape d k given m (trees.Pipeline name stages) = refl
by_shape d k given m (trees.Fields pipe fields) = refl

by_found : (d : DescriptionTree) (k : ℕ) (given : Given) (m : Moment) (r : ResourceTree) (found : Option Shape) → slice_get d.resources k ≡ Some r → register_shape r ≡ found → resource_put d k (slice_get d.resources k) given m ≡ put_shaped d k found given m
by_found d k given m r found there is = ap (λ (o : Option ResourceTree). resource_put d k o given m) there ∙ by_shape d k given m r ∙ ap (λ (o : Option Shape). put_shaped d k o given m) is

pub own_register : (d : DescriptionTree) (k : ℕ) (r : ResourceTree) (shape : Shape) (place : ℕ) (given : Given) (m : Moment) → slice_get d.resources k ≡ Some r → register_shape r ≡ Some shape → place ≡ register_place d k
    → resource_put d k (slice_get d.resources k) given m ≡ register_put place (bits_for shape given) m
own_register d k r shape place given m there is at =
    by_found d k given m r (Some shape) there is ∙ sym (ap (λ (p : ℕ). register_put p (bits_for shape given) m) at)

-- ---- it is as wide as the machine shows it

module _ (d : DescriptionTree) (k place : ℕ) (shape : Shape) (one : Item) (at : place ≡ register_place d k) where
  shown : (r : ResourceTree) (own : Shape) (name : List ℕ) → slice_get d.resources k ≡ Some r → register_in r ≡ Some (item own name) → Some own ≡ Some shape → (get_or (registers_of d) place one).width ≡ shape.width
  shown r own name there part is =
      let found = placed register_in d.resources k r (item own name) there part in
      let low = slice_get_within (registers_of d) (register_place d k) (item own name) found in
      let same : item own name ≡ get_or (registers_of d) (register_place d k) one = same_Some (item own name) (get_or (registers_of d) (register_place d k) one) (sym found ∙ slice_get-get_or (registers_of d) (register_place d k) one low) in
      ap (λ (p : ℕ). (get_or (registers_of d) p one).width) at ∙ sym (ap (λ (x : Item). x.width) same) ∙ ap (λ (s : Shape). s.width) (same_Some own shape is)

  pub register_wide : (r : ResourceTree) → slice_get d.resources k ≡ Some r → register_shape r ≡ Some shape → (get_or (registers_of d) place one).width ≡ shape.width
  register_wide (trees.Register word own name None) there is = shown (trees.Register word own name None) own name there refl is
  register_wide (trees.Register word own name (Some depth)) there is = absurd (cc is)
  register_wide (trees.Clocked word own name) there is = shown (trees.Clocked word own name) own name there refl is
  register_wide (trees.Memory word own name depth) there is = absurd (cc is)
  register_wide (trees.Pin own name) there is = absurd (cc is)
  register_wide (trees.Pipeline name stages) there is = absurd (cc is)
  register_wide (trees.Fields pipe fields) there is = absurd (cc is)

-- ---- fields of boundaries

module _ (d : DescriptionTree) (accepted : IsAccepted d) (f : ℕ) (shape : Shape) (is : shape_at d f ≡ Some shape) where
  pub field_least : 1 ≤ shape.width
  field_least = (shape_fits d accepted f shape is).0

  pub field_most : shape.width ≤ 64
  field_most = (shape_fits d accepted f shape is).1
