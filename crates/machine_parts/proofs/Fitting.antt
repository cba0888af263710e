-- The first values fit their registers.
use Rattle.std.proofs.Common.{◌≡◌, ◌<◌, ◌≤◌, ◌^◌, ◌∙◌, ℕ, zero, suc, List, [], ◌∷◌, refl, ap, subst, None, Some, length, arith}
use Rattle.std.specs.Prelude.{All, filter_map, zip, slice_index, slice_index_or}
use Rattle.std.proofs.lemmas.Bool.Decides.{nat_tests}
use Rattle.lisa_tree.specs.declared.tokens.Shape.{Shape}
use Rattle.lisa_tree.specs.Descriptions as trees
use Rattle.lisa_tree.specs.Descriptions.{ResourceTree, DescriptionTree}
use Rattle.lisa_engine.specs.declared.parts.Item.{Item}
use Rattle.lisa_engine.specs.Shape.{IsFitting}
use Rattle.typed_values.specs.Words.{TypedWord, word_width}
use Rattle.typed_values.specs.ResetEffects.{reset_moment}
use Rattle.typed_values.specs.ResetLaws.{IsWithin, first_width, HaveTypes}
use Rattle.typed_values.proofs.Kept.{reset_keeps}
use Rattle.machine_parts.specs.Parts.{item, register_in, register_bits, registers_of, first_values}
use Rattle.machine_parts.specs.Laws.{HasWidth, HaveWidths}

-- ---- lists with one more in front

one_fits : (i : Item) (v : ℕ) (items : List Item) (values : List ℕ) → v < 2 ^ i.width → IsFitting items values → IsFitting (i ∷ items) (v ∷ values)
one_fits i v items values within rest = record { count = ap suc rest.count; within = each }
  where
    each : (k : ℕ) (other : Item) → k < length (i ∷ items) → slice_index (v ∷ values) k < 2 ^ (slice_index_or (i ∷ items) k other).width
    each zero other lt = within
    each (suc k) other lt = rest.within k other (omega (arith, lt))

behind : {X : Type 0} (P : X → Type 0) (x : X) (xs : List X) → All P (x ∷ xs) → All P xs
behind P x xs all k d lt = all (suc k) d (omega (arith, lt))

front : {X : Type 0} (P : X → Type 0) (x : X) (xs : List X) → All P (x ∷ xs) → P x
front P x xs all = all 0 x (omega arith)

kept_behind : (r : ResourceTree) (w : TypedWord) (rs : List ResourceTree) (ws : List TypedWord) → HaveTypes (r ∷ rs) (w ∷ ws) → HaveTypes rs ws
kept_behind r w rs ws kept = record { kinds = let e = kept.kinds in cc; widths = let e = kept.widths in cc; within = behind IsWithin w ws kept.within }

-- ---- a register's value

width_is : (width : ℕ) → 1 ≤ width → width ≤ 64 → word_width width ≡ width
width_is width least most = grind (arith, nat_tests, least, most)

register_fits : (shape : Shape) (name : List ℕ) (w : TypedWord) → w.width ≡ word_width shape.width → IsWithin w → HasWidth (item shape name) → w.bits < 2 ^ shape.width
register_fits shape name w is within has = subst (λ (width : ℕ). w.bits < 2 ^ width) (is ∙ width_is shape.width has.least has.most) within

register_and_rest : (r : ResourceTree) (shape : Shape) (name : List ℕ) (w : TypedWord) (rs : List ResourceTree) (ws : List TypedWord) → first_width r ≡ word_width shape.width → HaveTypes (r ∷ rs) (w ∷ ws)
    → HaveWidths (item shape name ∷ filter_map register_in rs) → IsFitting (filter_map register_in rs) (filter_map register_bits (zip rs ws))
    → IsFitting (item shape name ∷ filter_map register_in rs) (w.bits ∷ filter_map register_bits (zip rs ws))
register_and_rest r shape name w rs ws is kept have rest =
    let same : w.width ≡ first_width r = let e = kept.widths in cc in
    one_fits (item shape name) w.bits _ _ (register_fits shape name w (same ∙ is) (front IsWithin w ws kept.within) (front HasWidth (item shape name) _ have)) rest

-- ---- all of them

all_fit : (rs : List ResourceTree) (ws : List TypedWord) → HaveTypes rs ws → HaveWidths (filter_map register_in rs) → IsFitting (filter_map register_in rs) (filter_map register_bits (zip rs ws))
all_fit [] ws kept have = record { count = refl; within = λ k i lt. absurd (let no_place = lt in omega (arith, no_place)) }
all_fit (r ∷ rs) [] kept have = absurd (let e = kept.widths in cc)
all_fit (trees.Register word shape name None ∷ rs) (w ∷ ws) kept have =
    register_and_rest (trees.Register word shape name None) shape name w rs ws refl kept have (all_fit rs ws (kept_behind _ w rs ws kept) (behind HasWidth _ _ have))
all_fit (trees.Register word shape name (Some depth) ∷ rs) (w ∷ ws) kept have = all_fit rs ws (kept_behind _ w rs ws kept) have
all_fit (trees.Clocked word shape name ∷ rs) (w ∷ ws) kept have =
    register_and_rest (trees.Clocked word shape name) shape name w rs ws refl kept have (all_fit rs ws (kept_behind _ w rs ws kept) (behind HasWidth _ _ have))
all_fit (trees.Memory word shape name depth ∷ rs) (w ∷ ws) kept have = all_fit rs ws (kept_behind _ w rs ws kept) have
all_fit (trees.Pin shape name ∷ rs) (w ∷ ws) kept have = all_fit rs ws (kept_behind _ w rs ws kept) have
all_fit (trees.Pipeline name stages ∷ rs) (w ∷ ws) kept have = all_fit rs ws (kept_behind _ w rs ws kept) have
all_fit (trees.Fields pipe fields ∷ rs) (w ∷ ws) kept have = all_fit rs ws (kept_behind _ w rs ws kept) have

pub firsts_fit : (d : DescriptionTree) → HaveWidths (registers_of d) → IsFitting (registers_of d) (first_values d)
firsts_fit d have = all_fit d.resources (reset_moment d).registers (reset_keeps d) have
