-- How many bits the items of a coding take, by the width that is known of the operation.
use Rattle.std.proofs.Common.{◌≡◌, ◌<◌, ◌≤◌, ◌+◌, ◌-◌, ◌^◌, ℕ, zero, suc, List, [], ◌∷◌, Option, None, Some, length, replicate, min, refl, sym, ap, ◌∙◌, arith}
use Rattle.std.specs.Prelude.{unwrap_or}
use Rattle.std.proofs.lemmas.Option.{same_Some}
use Rattle.lisa_tree.specs.declared.descriptions.Pattern.{Pattern}
use Rattle.lisa_tree.specs.declared.descriptions.CodingItem.{CodingItem}
use Rattle.lisa_tree.specs.Descriptions as trees
use Rattle.lisa_tree.specs.Descriptions.{CodingTree, DescriptionTree}
use Rattle.lisa_tree.specs.Operations.{coding_in, sections_at}
use Rattle.coding_tables.proofs.description_graph_proofs.Nodes.{at_operation}
use Rattle.least_fixed_points.specs.Settles.{Settles, settled}
use Rattle.coding_tables.specs.coded_names.Codings.{pattern_width, times_or}
use Rattle.coding_tables.specs.coding_checks.Widths.{item_width, items_width, coding_width, node_width, width_step, added, capped, AreWidths}
use Rattle.coding_tables.specs.coding_checks.Steady.{widths_monotone}
use Rattle.coding_tables.specs.Codings.{first_digit, repeated, pattern_digits}
use Rattle.instruction_forms.specs.Described.{own_items, items_at}
use Rattle.instruction_forms.specs.Picks.{item_span, span}

-- ---- what a table knows follows from it

pub follows_back : (d : DescriptionTree) (known : ℕ → Option ℕ) → AreWidths d known → (a w : ℕ) → known a ≡ Some w → width_step d known a ≡ Some w
follows_back d known exact a w e = by ((exact a w).0 e)
  where
    by : Settles (width_step d) a w → width_step d known a ≡ Some w
    by (settled less from is) = widths_monotone d less known (λ b u h. (exact b u).1 (from b u h)) a w is

-- ---- patterns

length-repeated : (n c : ℕ) → length (replicate n c) ≡ n
length-repeated zero c = refl
length-repeated (suc n) c = ap suc (length-repeated n c)

pub pattern_sized : (pattern : Pattern) → pattern_width pattern ≤ 64 → length (pattern_digits pattern) ≡ pattern_width pattern
pattern_sized pattern h = by pattern.digits pattern.times h
  where
    by : (digits : List ℕ) (times : Option ℕ) → times_or (min (length digits) (2 ^ 32 - 1)) times ≤ 64 → length (repeated digits times) ≡ times_or (min (length digits) (2 ^ 32 - 1)) times
    by digits None h = omega arith
    by digits (Some times) h = length-repeated times (first_digit digits)

-- ---- sums of widths

module _ (known : ℕ → Option ℕ) (d : DescriptionTree) (o : ℕ) where
  none_stays : (all : List CodingItem) (w : ℕ) → items_width known d o None all ≡ Some w → ⊥
  none_stays [] w e = cc e
  none_stays (item ∷ all) w e = none_stays all w e

  -- an item has a width, and the others are added to it
  pub record Added (s w : ℕ) (item : CodingItem) (rest : List CodingItem) : Type 0 where
    pub width : ℕ
    pub is : item_width known d o item ≡ Some width
    pub others : items_width known d o (Some (capped (s + width))) rest ≡ Some w

  pub added_to : (s w : ℕ) (item : CodingItem) (rest : List CodingItem) → items_width known d o (Some s) (item ∷ rest) ≡ Some w → Added s w item rest
  added_to s w item rest e = by (item_width known d o item) refl
    where
      by : (x : Option ℕ) → item_width known d o item ≡ x → Added s w item rest
      by None is = absurd (none_stays rest w (sym (ap (λ (x : Option ℕ). items_width known d o (added (Some s) x) rest) is) ∙ e))
      by (Some v) is = record { width = v; is = is; others = sym (ap (λ (x : Option ℕ). items_width known d o (added (Some s) x) rest) is) ∙ e }

  pub span_of : (item : CodingItem) (v : ℕ) → item_width known d o item ≡ Some v → item_span known d o item ≡ v
  span_of item v e = ap (λ (x : Option ℕ). unwrap_or x 0) e

  pub spanned : (all : List CodingItem) (s w : ℕ) → items_width known d o (Some s) all ≡ Some w → w ≤ 64 → s + span known d o all ≡ w
  spanned [] s w e h = let same = same_Some s w e in omega (arith, same)
  spanned (item ∷ all) s w e h =
      let a = added_to s w item all e in
      let i = spanned all (capped (s + a.width)) w a.others h in
      let v = span_of item a.width a.is in
      omega (arith, i, v, h)

-- the items of an operation of a known width
pub record KnownItems (known : ℕ → Option ℕ) (d : DescriptionTree) (o w : ℕ) : Type 0 where
  pub all : List CodingItem
  pub is : coding_in (sections_at d o) ≡ Some (trees.Items all)
  pub width : items_width known d o (Some 0) all ≡ Some w

pub known_items : (d : DescriptionTree) (known : ℕ → Option ℕ) (o w : ℕ) → coding_width known d o (coding_in (sections_at d o)) ≡ Some w → KnownItems known d o w
known_items d known o w e = by (coding_in (sections_at d o)) refl
  where
    by : (part : Option CodingTree) → coding_in (sections_at d o) ≡ part → KnownItems known d o w
    by None is = absurd (cc (sym (ap (coding_width known d o) is) ∙ e))
    by (Some (trees.Root place group)) is = absurd (cc (sym (ap (coding_width known d o) is) ∙ e))
    by (Some (trees.Items all)) is = record { all = all; is = is; width = sym (ap (coding_width known d o) is) ∙ e }

pub items_known : (d : DescriptionTree) (known : ℕ → Option ℕ) → AreWidths d known → (o w : ℕ) → o < length d.operations → known o ≡ Some w → items_width known d o (Some 0) (items_at d o) ≡ Some w
items_known d known exact o w h e =
    let step : coding_width known d o (coding_in (sections_at d o)) ≡ Some w = sym (ap (node_width d known) (at_operation d o h)) ∙ follows_back d known exact o w e in
    let k = known_items d known o w step in
    ap (λ (part : Option CodingTree). items_width known d o (Some 0) (own_items part)) k.is ∙ k.width

-- an operation takes as many bits as its width tells
pub span_is : (d : DescriptionTree) (known : ℕ → Option ℕ) → AreWidths d known → (o w : ℕ) → o < length d.operations → known o ≡ Some w → w ≤ 64 → span known d o (items_at d o) ≡ w
span_is d known exact o w h e small = let s = spanned known d o (items_at d o) 0 w (items_known d known exact o w h e) small in omega (arith, s)
