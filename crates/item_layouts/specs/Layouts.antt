-- What stands where among the items of a machine.
use Rattle.std.specs.Prelude.{ℕ, ◌≡◌, ◌+◌, ◌-◌, ◌<◌, ◌≤◌, Bool, true, false, ◌&&◌, List, [], ◌++◌, Option, None, Some, cond, filter, map, nat_eq, position}
use Rattle.std.specs.List.{flat_map, range_with_len}
use Rattle.item_layouts.specs.declared.place.ItemPlace.{ItemPlace}
use Rattle.item_layouts.specs.declared.place.ItemPlace.TheVariants.{Register, Field, Word, Bit}

-- how many there are of each
pub record Layout : Type 0 where
  pub registers : ℕ
  pub stages : ℕ
  pub fields : ℕ
  -- the first stage with a word, where one may have a word; all behind it have words too
  pub words : Option ℕ
  pub occurrences : ℕ
  -- an occurrence may stand in a stage: the stage's number, and the occurrence's
  pub stands : ℕ → ℕ → Bool

-- ---- all places, in the order of the items

abbrev pub register_places : Layout → List ItemPlace
register_places l = map Register (range_with_len 0 l.registers)

-- by boundaries, each with all fields
abbrev pub boundary_places : Layout → ℕ → List ItemPlace
boundary_places l b = map (Field b) (range_with_len 0 l.fields)

abbrev pub field_places : Layout → List ItemPlace
field_places l = flat_map (boundary_places l) (range_with_len 0 (l.stages - 1))

abbrev pub words_from : ℕ → Option ℕ → List ItemPlace
words_from stages None = []
words_from stages (Some first) = map Word (range_with_len first (stages - first))

abbrev pub word_places : Layout → List ItemPlace
word_places l = words_from l.stages l.words

-- by stages, each with the occurrences that may stand in it
abbrev pub stage_places : Layout → ℕ → List ItemPlace
stage_places l s = map (Bit s) (filter (l.stands s) (range_with_len 0 l.occurrences))

abbrev pub bit_places : Layout → List ItemPlace
bit_places l = flat_map (stage_places l) (range_with_len 0 l.stages)

abbrev pub item_places : Layout → List ItemPlace
item_places l = register_places l ++ (field_places l ++ (word_places l ++ bit_places l))

-- there is such a place
abbrev pub HasPlace : Layout → ItemPlace → Type 0
HasPlace l (Register k) = k < l.registers
HasPlace l (Field b f) = (b + 1 < l.stages) × (f < l.fields)
HasPlace l (Word s) = (first : ℕ) × (l.words ≡ Some first) × (first ≤ s) × (s < l.stages)
HasPlace l (Bit s k) = (s < l.stages) × (k < l.occurrences) × (l.stands s k ≡ true)

-- ---- the number of a place

abbrev pub same_place : ItemPlace → ItemPlace → Bool
same_place (Register k) (Register j) = nat_eq k j
same_place (Field b f) (Field c g) = nat_eq b c && nat_eq f g
same_place (Word s) (Word t) = nat_eq s t
same_place (Bit s k) (Bit t j) = nat_eq s t && nat_eq k j
same_place _ _ = false

abbrev pub place_of : Layout → ItemPlace → Option ℕ
place_of l p = position (same_place p) (item_places l)

-- ---- the values of items

pub record ItemValues : Type 0 where
  pub register : ℕ → ℕ
  -- by boundary and field
  pub field : ℕ → ℕ → ℕ
  pub word : ℕ → ℕ
  -- by stage and occurrence
  pub bit : ℕ → ℕ → Bool

abbrev pub value_at : ItemValues → ItemPlace → ℕ
value_at v (Register k) = v.register k
value_at v (Field b f) = v.field b f
value_at v (Word s) = v.word s
value_at v (Bit s k) = cond (v.bit s k) 1 0

-- one for each place
abbrev pub item_values : Layout → ItemValues → List ℕ
item_values l v = map (value_at v) (item_places l)
