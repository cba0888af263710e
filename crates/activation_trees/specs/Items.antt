-- The items of a machine: its registers, the fields of the boundaries between stages, the words of the stages behind the root, and a bit for
-- each activation that may stand in a stage.
use Rattle.std.specs.Prelude.{ℕ, ◌+◌, Bool, true, false, ◌&&◌, List, [], ◌∷◌, ◌++◌, Option, None, Some, cond, codes, decimal, drop, map, nat_lt, nat_le}
use Rattle.lisa_machine.specs.lisa_engine.declared.parts.Item.{Item}
use Rattle.lisa_tree.specs.declared.tokens.Shape.{Shape}
use Rattle.lisa_tree.specs.Descriptions.{DescriptionTree}
use Rattle.lisa_tree.specs.Resources.{stages, fields}
use Rattle.lisa_tree.specs.Operations.{name_at, is_root}
use Rattle.activation_trees.specs.declared.parts.Occurrence.{Occurrence}

abbrev pub item : List ℕ → ℕ → Item
item name width = record { name = name; width = width }

-- ---- boundaries

-- `A/B.f`
abbrev pub field_item : List ℕ → List ℕ → Shape × List ℕ → Item
field_item a b field = item (a ++ (codes "/" ++ (b ++ (codes "." ++ field.1)))) field.0.width

-- the fields of the boundary between a stage and the first of those behind it
abbrev pub boundary : List (Shape × List ℕ) → List ℕ → List (List ℕ) → List Item
boundary all a [] = []
boundary all a (b ∷ rest) = map (field_item a b) all

abbrev pub boundary_items : List (Shape × List ℕ) → List (List ℕ) → List Item
boundary_items all [] = []
boundary_items all (a ∷ rest) = boundary all a rest ++ boundary_items all rest

-- ---- words

abbrev pub stage_or_first : Option ℕ → ℕ
stage_or_first None = 0
stage_or_first (Some s) = s

-- the stage of the root, which counts as one of the first stage where it runs in none
abbrev pub root_stage : DescriptionTree → List Occurrence → Option ℕ
root_stage d [] = None
root_stage d (x ∷ rest) = cond (is_root d x.operation) (Some (stage_or_first x.stage)) (root_stage d rest)

-- `S.word`
abbrev pub word_item : ℕ → List ℕ → Item
word_item width stage = item (stage ++ codes ".word") width

-- the words of the stages behind the root's; none without an instruction, or without an occurrence of the root
abbrev pub word_items : List (List ℕ) → Option ℕ → Option ℕ → List Item
word_items names None root = []
word_items names (Some width) None = []
word_items names (Some width) (Some s) = map (word_item width) (drop (s + 1) names)

-- ---- bits

-- A stage stands behind that of the activator, and not behind the occurrence's own. Where the activator runs in none, no stage does.
abbrev pub is_between : Option ℕ → ℕ → Option ℕ → Bool
is_between (Some from) t (Some stage) = nat_lt from t && nat_le t stage
is_between _ t _ = false

abbrev pub has_bit : ℕ → Occurrence → Bool
has_bit t x = is_between x.from t x.stage

-- `S.operation.k`
abbrev pub bit_item : DescriptionTree → List ℕ → Occurrence → ℕ → Item
bit_item d stage x k = item (stage ++ (codes "." ++ (name_at d x.operation ++ (codes "." ++ decimal k)))) 1

-- the bits of a stage for occurrences that are numbered from a number on
abbrev pub bits_from : DescriptionTree → List ℕ → ℕ → ℕ → List Occurrence → List Item
bits_from d stage t k [] = []
bits_from d stage t k (x ∷ rest) = cond (has_bit t x) (bit_item d stage x k ∷ []) [] ++ bits_from d stage t (k + 1) rest

-- the bits of the stages from a number on
abbrev pub bit_items : DescriptionTree → List Occurrence → ℕ → List (List ℕ) → List Item
bit_items d all t [] = []
bit_items d all t (stage ∷ rest) = bits_from d stage t 0 all ++ bit_items d all (t + 1) rest

-- ---- all of them, behind the registers

abbrev pub items_behind : DescriptionTree → Option ℕ → List Occurrence → List Item
items_behind d width all = boundary_items (fields d) (stages d) ++ (word_items (stages d) width (root_stage d all) ++ bit_items d all 0 (stages d))

abbrev pub items_of : List Item → DescriptionTree → Option ℕ → List Occurrence → List Item
items_of registers d width all = registers ++ items_behind d width all
