-- Where resources stand among those of their kind.
use Rattle.std.proofs.Common.{◌≡◌, ◌<◌, ◌+◌, ◌∙◌, ℕ, zero, suc, List, [], ◌∷◌, ◌++◌, Option, None, Some, length, get_or, map, take, drop, refl, ap, arith}
use Rattle.std.specs.Prelude.{filter_map}
use Rattle.std.specs.List.{cons_option}
use Rattle.lisa_tree.specs.declared.descriptions.Resource.{Resource}
use Rattle.lisa_tree.specs.Descriptions.{ResourceTree, DescriptionTree, resource_tree}
use Rattle.description_tables.proofs.Lists.{one_resource}
use Rattle.lisa_meaning.specs.machine_parts.Parts.{array_in, pin_in, register_in}
use Rattle.lisa_meaning.specs.Values.{register_place, array_place, pin_place}
use Rattle.scene_paths.specs.declared.before.Before.{Before}
use Rattle.scene_paths.specs.Places.{counted, before, past, befores, ArePlaces}

pub one_place : (b : Before) (all : List Resource) (i : ℕ) (r : Resource) → i < length all → r ≡ get_or all i r → befores b (map resource_tree (drop i all)) ≡ (b ∷ []) ++ befores (past b (resource_tree r)) (map resource_tree (drop (i + 1) all))
one_place b all i r h is = ap (befores b) (one_resource all i r h is)

same_before : (a b c x y z : ℕ) → a ≡ x → b ≡ y → c ≡ z → before a b c ≡ before x y z
same_before a b c x y z e f g = ap (λ (n : ℕ). before n b c) e ∙ ap (λ (n : ℕ). before x n c) f ∙ ap (λ (n : ℕ). before x y n) g

more : {P : Type 0} (n : ℕ) (o : Option P) (xs : List P) → counted o n + length xs ≡ n + length (cons_option o xs)
more n None xs = refl
more n (Some x) xs = omega arith

nth : (b : Before) (rs : List ResourceTree) (k : ℕ) (z : Before) → k < length rs
    → get_or (befores b rs) k z ≡ before (b.registers + length (filter_map register_in (take k rs))) (b.arrays + length (filter_map array_in (take k rs))) (b.pins + length (filter_map pin_in (take k rs)))
nth b [] k z h = absurd (omega (arith, h))
nth b (r ∷ rs) zero z h = same_before b.registers b.arrays b.pins (b.registers + 0) (b.arrays + 0) (b.pins + 0) (omega arith) (omega arith) (omega arith)
nth b (r ∷ rs) (suc k) z h =
    nth (past b r) rs k z (omega (arith, h))
    ∙ same_before _ _ _ _ _ _ (more b.registers (register_in r) (filter_map register_in (take k rs))) (more b.arrays (array_in r) (filter_map array_in (take k rs))) (more b.pins (pin_in r) (filter_map pin_in (take k rs)))

pub as_many : (b : Before) (rs : List ResourceTree) → length (befores b rs) ≡ length rs
as_many b [] = refl
as_many b (r ∷ rs) = ap suc (as_many (past b r) rs)

none_more : (n : ℕ) → 0 + n ≡ n
none_more n = omega arith

module _ (d : DescriptionTree) (all : List Before) (are : ArePlaces d all) (k : ℕ) (h : k < length d.resources) (z : Before) where
  read : get_or all k z ≡ before (0 + register_place d k) (0 + array_place d k) (0 + pin_place d k)
  read = ap (λ (bs : List Before). get_or bs k z) are ∙ nth (before 0 0 0) d.resources k z h

  pub register_is : (get_or all k z).registers ≡ register_place d k
  register_is = ap (λ (b : Before). b.registers) read ∙ none_more (register_place d k)

  pub array_is : (get_or all k z).arrays ≡ array_place d k
  array_is = ap (λ (b : Before). b.arrays) read ∙ none_more (array_place d k)

  pub pin_is : (get_or all k z).pins ≡ pin_place d k
  pin_is = ap (λ (b : Before). b.pins) read ∙ none_more (pin_place d k)

pub places_counted : (d : DescriptionTree) (all : List Before) → ArePlaces d all → length all ≡ length d.resources
places_counted d all are = ap length are ∙ as_many (before 0 0 0) d.resources

-- what is kept of a resource
module _ (d : DescriptionTree) (all : List Before) (k : ℕ) (b : Before) (are : ArePlaces d all) (h : k < length d.resources) (is : b ≡ get_or all k b) where
  pub register_read : b.registers ≡ register_place d k
  register_read = ap (λ (x : Before). x.registers) is ∙ register_is d all are k h b

  pub array_read : b.arrays ≡ array_place d k
  array_read = ap (λ (x : Before). x.arrays) is ∙ array_is d all are k h b

  pub pin_read : b.pins ≡ pin_place d k
  pin_read = ap (λ (x : Before). x.pins) is ∙ pin_is d all are k h b
