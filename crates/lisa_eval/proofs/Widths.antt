-- Bits that fit a type are the word of that type, and an accepted description has widths and depths that fit.
use Rattle.std.proofs.Common.{◌≡◌, ◌<◌, ◌≤◌, ◌^◌, ◌∙◌, ℕ, zero, suc, Bool, true, false, cond, List, [], ◌∷◌, Option, None, Some, nat_lt, refl, ap, subst, arith, mod-eq_of_lt}
use Rattle.std.specs.Prelude.{slice_get, option_map}
use Rattle.std.specs.List.{AllByRecursion}
use Rattle.std.proofs.lemmas.Bool.Decides.{nat_tests}
use Rattle.std.proofs.lemmas.Option.{same_Some}
use Rattle.lisa_words.specs.declared.words.Kind.TheVariants as kinds
use Rattle.lisa_words.specs.Words.{word_cut, word_widen}
use Rattle.lisa_tree.specs.declared.tokens.Shape.{Shape}
use Rattle.lisa_tree.specs.Descriptions as trees
use Rattle.lisa_tree.specs.Descriptions.{ResourceTree, DescriptionTree}
use Rattle.lisa_tree.specs.declared.declared.Meaning.{Meaning}
use Rattle.lisa_tree.specs.declared.declared.Meaning.TheVariants as meanings
use Rattle.lisa_tree.specs.Resources.{fields_in}
use Rattle.lisa_machine.specs.Verdicts.{IsAccepted}
use Rattle.lisa_machine.specs.Resolving.{IsWidth, IsDepth, FitsResource}
use Rattle.lisa_machine.proofs.Sound.{sound}
use Rattle.lisa_machine.proofs.Resolved.{resource_fits}
use Rattle.typed_values.specs.Words.{typed, fitted, word_width}
use Rattle.lisa_meaning.specs.Values.{Array, array_of, meant_array, shape_at, shaped}
use Rattle.behavior_plans.specs.Values.{shaped_word}

-- ---- words

width_is : (width : ℕ) → 1 ≤ width → width ≤ 64 → word_width width ≡ width
width_is width least most = grind (arith, nat_tests, least, most)

fitted_is : (bits width : ℕ) → bits < 2 ^ width → fitted (typed kinds.Unsigned 64 bits) width ≡ bits
fitted_is bits width fits = by (nat_lt width 64)
  where
    by : (b : Bool) → cond b (word_cut width bits) (word_widen kinds.Unsigned 64 bits width) ≡ bits
    by true = mod-eq_of_lt fits
    by false = mod-eq_of_lt fits

pub shaped_is : (shape : Shape) (bits : ℕ) → IsWidth shape.width → bits < 2 ^ shape.width → shaped_word shape bits ≡ shaped shape bits
shaped_is shape bits wide fits =
    ap (λ (w : ℕ). typed shape.kind w (fitted (typed kinds.Unsigned 64 bits) w)) (width_is shape.width wide.0 wide.1) ∙ ap (λ (b : ℕ). typed shape.kind shape.width b) (fitted_is bits shape.width fits)

-- ---- fields

fields_wide : (rs : List ResourceTree) → ((k : ℕ) (r : ResourceTree) → slice_get rs k ≡ Some r → FitsResource r) → AllByRecursion (λ (field : Shape × List ℕ). IsWidth field.0.width) (fields_in rs)
fields_wide [] fit = tt
fields_wide (trees.Register word shape name depth ∷ rs) fit = fields_wide rs (λ k. fit (suc k))
fields_wide (trees.Clocked word shape name ∷ rs) fit = fields_wide rs (λ k. fit (suc k))
fields_wide (trees.Memory word shape name depth ∷ rs) fit = fields_wide rs (λ k. fit (suc k))
fields_wide (trees.Pin shape name ∷ rs) fit = fields_wide rs (λ k. fit (suc k))
fields_wide (trees.Pipeline name stages ∷ rs) fit = fields_wide rs (λ k. fit (suc k))
fields_wide (trees.Fields pipe fields ∷ rs) fit = fit 0 (trees.Fields pipe fields) refl

field_wide : (all : List (Shape × List ℕ)) (f : ℕ) (shape : Shape) → AllByRecursion (λ (field : Shape × List ℕ). IsWidth field.0.width) all → option_map (λ (field : Shape × List ℕ). field.0) (slice_get all f) ≡ Some shape → IsWidth shape.width
field_wide [] f shape wide e = absurd (cc e)
field_wide (x ∷ xs) zero shape wide e = subst (λ (s : Shape). IsWidth s.width) (same_Some x.0 shape e) wide.0
field_wide (x ∷ xs) (suc f) shape wide e = field_wide xs f shape wide.1 e

-- ---- of an accepted description

module _ (d : DescriptionTree) (accepted : IsAccepted d) where
  fits : (k : ℕ) (r : ResourceTree) → slice_get d.resources k ≡ Some r → FitsResource r
  fits k r is = let w = sound d accepted in resource_fits d w.widths w.depths k r is

  pub shape_fits : (f : ℕ) (shape : Shape) → shape_at d f ≡ Some shape → IsWidth shape.width
  shape_fits f shape e = field_wide (fields_in d.resources) f shape (fields_wide d.resources fits) e

  pub array_fits : (k : ℕ) (a : Array) → array_of d k (slice_get d.resources k) ≡ Some a → IsWidth a.shape.width × IsDepth a.depth
  array_fits k a is = by (slice_get d.resources k) refl is
    where
      by : (r : Option ResourceTree) → slice_get d.resources k ≡ r → array_of d k r ≡ Some a → IsWidth a.shape.width × IsDepth a.depth
      by None e f = absurd (cc f)
      by (Some (trees.Register word shape name None)) e f = absurd (cc f)
      by (Some (trees.Register word shape name (Some depth))) e f =
          subst (λ (x : Array). IsWidth x.shape.width × IsDepth x.depth) (same_Some _ a f) (fits k (trees.Register word shape name (Some depth)) e)
      by (Some (trees.Clocked word shape name)) e f = absurd (cc f)
      by (Some (trees.Memory word shape name depth)) e f = subst (λ (x : Array). IsWidth x.shape.width × IsDepth x.depth) (same_Some _ a f) (fits k (trees.Memory word shape name depth) e)
      by (Some (trees.Pin shape name)) e f = absurd (cc f)
      by (Some (trees.Pipeline name stages)) e f = absurd (cc f)
      by (Some (trees.Fields pipe fields)) e f = absurd (cc f)

-- the resource of an array's name
pub array_number : (d : DescriptionTree) (a : Array) (is : Meaning) → meant_array d is ≡ Some a → (k : ℕ) × (array_of d k (slice_get d.resources k) ≡ Some a)
array_number d a meanings.Nothing e = absurd (cc e)
array_number d a (meanings.Resource k) e = (k, e)
array_number d a (meanings.Declared i) e = absurd (cc e)
