-- Each register has a place of its own.
use Rattle.std.proofs.Common.{◌≡◌, ◌<◌, ◌∙◌, ℕ, zero, suc, List, [], ◌∷◌, Option, None, Some, length, take, refl, sym, ap, arith}
use Rattle.std.specs.Prelude.{filter_map, slice_get}
use Rattle.std.specs.List.{cons_option}
use Rattle.std.proofs.lemmas.Option.{same_Some}
use Rattle.lisa_tree.specs.declared.tokens.Shape.{Shape}
use Rattle.lisa_tree.specs.Descriptions as trees
use Rattle.lisa_tree.specs.Descriptions.{ResourceTree, DescriptionTree}
use Rattle.lisa_engine.specs.declared.parts.Item.{Item}
use Rattle.machine_parts.specs.Parts.{item, register_in, registers_of}
use Rattle.lisa_meaning.specs.Values.{register_place}
use Rattle.lisa_eval.specs.Holding.{register_shape}

-- ---- a list's part of this kind

-- how many stand before
abbrev before : List ResourceTree → ℕ → ℕ
before rs k = length (filter_map register_in (take k rs))

within : (rs : List ResourceTree) (k : ℕ) (r : ResourceTree) (i : Item) → slice_get rs k ≡ Some r → register_in r ≡ Some i → before rs k < length (filter_map register_in rs)
within [] k r i e f = absurd (cc e)
within (x ∷ rs) zero r i e f = by (register_in x) (ap register_in (same_Some x r e) ∙ f)
  where
    by : (o : Option Item) → o ≡ Some i → 0 < length (cons_option o (filter_map register_in rs))
    by None g = absurd (cc g)
    by (Some y) g = omega arith
within (x ∷ rs) (suc k) r i e f = by (register_in x) (within rs k r i e f)
  where
    by : (o : Option Item) → before rs k < length (filter_map register_in rs) → length (cons_option o (filter_map register_in (take k rs))) < length (cons_option o (filter_map register_in rs))
    by None low = low
    by (Some y) low = omega (arith, low)

-- the first one stands before each other one
first_counts : (x : ResourceTree) (rs : List ResourceTree) (i : Item) (k : ℕ) → register_in x ≡ Some i → 0 ≡ length (cons_option (register_in x) (filter_map register_in (take k rs))) → ⊥
first_counts x rs i k f = by (register_in x) f
  where
    by : (o : Option Item) → o ≡ Some i → 0 ≡ length (cons_option o (filter_map register_in (take k rs))) → ⊥
    by None g same = absurd (cc g)
    by (Some y) g same = absurd (omega (arith, same))

once : (rs : List ResourceTree) (k j : ℕ) (r s : ResourceTree) (i l : Item) → slice_get rs k ≡ Some r → register_in r ≡ Some i → slice_get rs j ≡ Some s → register_in s ≡ Some l → before rs k ≡ before rs j → k ≡ j
once [] k j r s i l e f g h same = absurd (cc e)
once (x ∷ rs) zero zero r s i l e f g h same = refl
once (x ∷ rs) zero (suc j) r s i l e f g h same = absurd (first_counts x rs i j (ap register_in (same_Some x r e) ∙ f) same)
once (x ∷ rs) (suc k) zero r s i l e f g h same = absurd (first_counts x rs l k (ap register_in (same_Some x s g) ∙ h) (sym same))
once (x ∷ rs) (suc k) (suc j) r s i l e f g h same = by (register_in x) (λ rest. ap (λ (n : ℕ). suc n) (once rs k j r s i l e f g h rest)) same
  where
    by : (o : Option Item) → (before rs k ≡ before rs j → suc k ≡ suc j) → length (cons_option o (filter_map register_in (take k rs))) ≡ length (cons_option o (filter_map register_in (take j rs))) → suc k ≡ suc j
    by None rest is = rest is
    by (Some y) rest is = rest (omega (arith, is))

-- ---- of a description

register_is : (o : Option ResourceTree) (shape : Shape) → register_shape o ≡ Some shape → (r : ResourceTree) × (i : Item) × (o ≡ Some r) × (register_in r ≡ Some i)
register_is None shape e = absurd (cc e)
register_is (Some (trees.Register word s name None)) shape e = (trees.Register word s name None, item s name, refl, refl)
register_is (Some (trees.Register word s name (Some depth))) shape e = absurd (cc e)
register_is (Some (trees.Clocked word s name)) shape e = (trees.Clocked word s name, item s name, refl, refl)
register_is (Some (trees.Memory word s name depth)) shape e = absurd (cc e)
register_is (Some (trees.Pin s name)) shape e = absurd (cc e)
register_is (Some (trees.Pipeline name stages)) shape e = absurd (cc e)
register_is (Some (trees.Fields pipe fields)) shape e = absurd (cc e)

module _ (d : DescriptionTree) where
  pub place_within : (k : ℕ) (shape : Shape) → register_shape (slice_get d.resources k) ≡ Some shape → register_place d k < length (registers_of d)
  place_within k shape e = let r = register_is (slice_get d.resources k) shape e in within d.resources k r.0 r.1 r.2 r.3

  -- what stands at one place has one type
  pub one_shape : (k j : ℕ) (shape other : Shape) → register_shape (slice_get d.resources k) ≡ Some shape → register_shape (slice_get d.resources j) ≡ Some other → register_place d k ≡ register_place d j → shape ≡ other
  one_shape k j shape other e f same =
      let r = register_is (slice_get d.resources k) shape e in
      let s = register_is (slice_get d.resources j) other f in
      let number : k ≡ j = once d.resources k j r.0 s.0 r.1 s.1 r.2 r.3 s.2 s.3 same in
      same_Some shape other (sym e ∙ ap (λ (n : ℕ). register_shape (slice_get d.resources n)) number ∙ f)
