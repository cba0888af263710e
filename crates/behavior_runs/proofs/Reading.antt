-- What is read from a moment that fits, by the resource that is read.
use Rattle.std.proofs.Common.{◌≡◌, ◌<◌, ◌≤◌, ◌^◌, ◌∙◌, ℕ, Bool, true, false, nat_lt, List, [], None, Some, length, get_or, refl, sym, ap, subst, arith}
use Rattle.std.specs.Prelude.{slice_get}
use Rattle.std.proofs.lemmas.Bool.{ltb-true, ltb-false}
use Rattle.std.proofs.lemmas.List.{get_or_past}
use Rattle.std.proofs.lemmas.Nat.{pow_pos}
use Rattle.std.proofs.lemmas.Option.{slice_get_within}
use Rattle.lisa_engine.specs.declared.parts.ArrayItem.{ArrayItem}
use Rattle.lisa_engine.specs.Shape.{AreCells}
use Rattle.lisa_tree.specs.declared.tokens.Shape.{Shape}
use Rattle.lisa_tree.specs.Descriptions as trees
use Rattle.lisa_tree.specs.Descriptions.{ResourceTree, DescriptionTree}
use Rattle.lisa_tree.specs.declared.descriptions.RegisterWord.{RegisterWord}
use Rattle.moment_stores.specs.lisa_machine.Verdicts.{IsAccepted}
use Rattle.scene_paths.specs.lisa_meaning.Moments.{Moment, field_at}
use Rattle.scene_paths.specs.lisa_meaning.Values.{register_place, pin_place, shape_at, resource_value, shaped}
use Rattle.typed_values.specs.Words.{TypedWord}
use Rattle.moment_stores.specs.Fitting.{MomentFits}
use Rattle.scene_paths.proofs.Widths.{fits, shape_fits, register_held, clocked_held, pin_held}

pub same_fits : (a b : DescriptionTree) (m : Moment) → a ≡ b → MomentFits a m → MomentFits b m
same_fits a b m e = subst (λ (d : DescriptionTree). MomentFits d m) e

pub number_within : (d : DescriptionTree) (k : ℕ) (r : ResourceTree) → slice_get d.resources k ≡ Some r → k < length d.resources
number_within d k r is = slice_get_within d.resources k r is

-- ---- types

module _ (d : DescriptionTree) (accepted : IsAccepted d) (k : ℕ) (shape : Shape) (name : List ℕ) where
  pub register_least : (word : RegisterWord) → slice_get d.resources k ≡ Some (trees.Register word shape name None) → 1 ≤ shape.width
  register_least word is = (fits d accepted k (trees.Register word shape name None) is).0.0

  pub register_most : (word : RegisterWord) → slice_get d.resources k ≡ Some (trees.Register word shape name None) → shape.width ≤ 64
  register_most word is = (fits d accepted k (trees.Register word shape name None) is).0.1

  pub clocked_least : (word : RegisterWord) → slice_get d.resources k ≡ Some (trees.Clocked word shape name) → 1 ≤ shape.width
  clocked_least word is = (fits d accepted k (trees.Clocked word shape name) is).0

  pub clocked_most : (word : RegisterWord) → slice_get d.resources k ≡ Some (trees.Clocked word shape name) → shape.width ≤ 64
  clocked_most word is = (fits d accepted k (trees.Clocked word shape name) is).1

  pub pin_least : slice_get d.resources k ≡ Some (trees.Pin shape name) → 1 ≤ shape.width
  pin_least is = (fits d accepted k (trees.Pin shape name) is).0

  pub pin_most : slice_get d.resources k ≡ Some (trees.Pin shape name) → shape.width ≤ 64
  pin_most is = (fits d accepted k (trees.Pin shape name) is).1

-- ---- bits that are read

module _ (d : DescriptionTree) (m : Moment) (fit : MomentFits d m) (k : ℕ) (shape : Shape) (name : List ℕ) (place bits : ℕ) where
  pub register_fits : (word : RegisterWord) → slice_get d.resources k ≡ Some (trees.Register word shape name None) → place ≡ register_place d k → bits ≡ get_or m.memory.registers place 0 → bits < 2 ^ shape.width
  register_fits word is at read = subst (λ (n : ℕ). n < 2 ^ shape.width) (sym (read ∙ ap (λ (p : ℕ). get_or m.memory.registers p 0) at)) (register_held d m.memory.registers k word shape name fit.memory.registers is)

  pub clocked_fits : (word : RegisterWord) → slice_get d.resources k ≡ Some (trees.Clocked word shape name) → place ≡ register_place d k → bits ≡ get_or m.kept place 0 → bits < 2 ^ shape.width
  clocked_fits word is at read = subst (λ (n : ℕ). n < 2 ^ shape.width) (sym (read ∙ ap (λ (p : ℕ). get_or m.kept p 0) at)) (clocked_held d m.kept k word shape name fit.kept is)

  pub pin_fits : slice_get d.resources k ≡ Some (trees.Pin shape name) → place ≡ pin_place d k → bits ≡ get_or m.pins place 0 → bits < 2 ^ shape.width
  pin_fits is at read = subst (λ (n : ℕ). n < 2 ^ shape.width) (sym (read ∙ ap (λ (p : ℕ). get_or m.pins p 0) at)) (pin_held d m.pins k shape name fit.pins is)

-- ---- the values of resources

module _ (d : DescriptionTree) (m : Moment) (k : ℕ) (shape : Shape) (name : List ℕ) (place bits : ℕ) (v : TypedWord) (made : v ≡ shaped shape bits) where
  pub register_value : (word : RegisterWord) → slice_get d.resources k ≡ Some (trees.Register word shape name None) → place ≡ register_place d k → bits ≡ get_or m.memory.registers place 0 → v ≡ resource_value d m k (slice_get d.resources k)
  register_value word is at read = made ∙ ap (shaped shape) (read ∙ ap (λ (p : ℕ). get_or m.memory.registers p 0) at) ∙ sym (ap (resource_value d m k) is)

  pub clocked_value : (word : RegisterWord) → slice_get d.resources k ≡ Some (trees.Clocked word shape name) → place ≡ register_place d k → bits ≡ get_or m.kept place 0 → v ≡ resource_value d m k (slice_get d.resources k)
  clocked_value word is at read = made ∙ ap (shaped shape) (read ∙ ap (λ (p : ℕ). get_or m.kept p 0) at) ∙ sym (ap (resource_value d m k) is)

  pub pin_value : slice_get d.resources k ≡ Some (trees.Pin shape name) → place ≡ pin_place d k → bits ≡ get_or m.pins place 0 → v ≡ resource_value d m k (slice_get d.resources k)
  pin_value is at read = made ∙ ap (shaped shape) (read ∙ ap (λ (p : ℕ). get_or m.pins p 0) at) ∙ sym (ap (resource_value d m k) is)

-- ---- fields of boundaries

module _ (d : DescriptionTree) (accepted : IsAccepted d) (f : ℕ) (shape : Shape) (is : shape_at d f ≡ Some shape) where
  pub field_least : 1 ≤ shape.width
  field_least = (shape_fits d accepted f shape is).0

  pub field_most : shape.width ≤ 64
  field_most = (shape_fits d accepted f shape is).1

pub field_read : (d : DescriptionTree) (m : Moment) (s f bits : ℕ) (shape : Shape) → MomentFits d m → shape_at d f ≡ Some shape → bits ≡ field_at m.memory.fields s f → bits < 2 ^ shape.width
field_read d m s f bits shape fit is read = subst (λ (n : ℕ). n < 2 ^ shape.width) (sym read) (fit.memory.fields s f shape is)

-- ---- elements

-- where a list has nothing, 0 stands
past_zero : (row : List ℕ) (index w : ℕ) → length row ≤ index → get_or row index 0 < 2 ^ w
past_zero row index w h = subst (λ (n : ℕ). n < 2 ^ w) (sym (get_or_past row index 0 h)) (pow_pos w)

pub element_fits : (arrays : List ArrayItem) (cells : List (List ℕ)) (place index w : ℕ) → AreCells arrays cells → ((item : ArrayItem) → (get_or arrays place item).width ≡ w) → get_or (get_or cells place []) index 0 < 2 ^ w
element_fits arrays cells place index w fit wide = by (nat_lt place (length arrays)) refl (nat_lt index (length (get_or cells place []))) refl
  where
    none : ArrayItem
    none = record { name = []; width = 0; depth = 0 }

    by : (a : Bool) → nat_lt place (length arrays) ≡ a → (b : Bool) → nat_lt index (length (get_or cells place [])) ≡ b → get_or (get_or cells place []) index 0 < 2 ^ w
    by true there true inside =
        subst (λ (n : ℕ). get_or (get_or cells place []) index 0 < 2 ^ n) (wide none) (fit.within place index none (ltb-true place (length arrays) there) (ltb-true index (length (get_or cells place [])) inside))
    by true there false outside = past_zero (get_or cells place []) index w (ltb-false index (length (get_or cells place [])) outside)
    by false past b rest =
        let count = fit.count in
        let low = ltb-false place (length arrays) past in
        let row : get_or cells place [] ≡ [] = get_or_past cells place [] (omega (arith, count, low)) in
        subst (λ (r : List ℕ). get_or r index 0 < 2 ^ w) (sym row) (past_zero [] index w (omega arith))

-- bits that are read there
pub element_read : (arrays : List ArrayItem) (cells : List (List ℕ)) (place index w bits : ℕ) → AreCells arrays cells → ((item : ArrayItem) → (get_or arrays place item).width ≡ w) → bits ≡ get_or (get_or cells place []) index 0 → bits < 2 ^ w
element_read arrays cells place index w bits fit wide read = subst (λ (n : ℕ). n < 2 ^ w) (sym read) (element_fits arrays cells place index w fit wide)
