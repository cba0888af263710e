-- What a machine shows, in order of declaration: its arrays, its pins, its registers and what these hold first. And how large its `reset` is.
use Rattle.std.specs.Prelude.{codes, ℕ, ◌-◌, ◌^◌, Bool, true, false, List, filter_map, zip, min, Option, None, Some, option_map}
use Rattle.lisa_tree.specs.declared.tokens.Shape.{Shape}
use Rattle.lisa_tree.specs.Statements.{StmtTrees}
use Rattle.lisa_tree.specs.Descriptions as trees
use Rattle.lisa_tree.specs.Descriptions.{ResourceTree, DescriptionTree}
use Rattle.lisa_engine.specs.declared.parts.Item.{Item}
use Rattle.lisa_engine.specs.declared.parts.ArrayItem.{ArrayItem}
use Rattle.lisa_tree.specs.Operations.{number_of, behavior_in, sections_at}
use Rattle.typed_values.specs.Words.{TypedWord}
use Rattle.typed_values.specs.Counts.{statements_count, statements_nodes}
use Rattle.typed_values.specs.ResetEffects.{reset_moment}

abbrev pub item : Shape → List ℕ → Item
item shape name = record { name = name; width = shape.width }

-- a depth of more than 32 bits, which no accepted description has, counts as 2 ^ 32 - 1
abbrev pub array : Shape → List ℕ → ℕ → ArrayItem
array shape name depth = record { name = name; width = shape.width; depth = min depth (2 ^ 32 - 1) }

-- ---- arrays: register arrays and memories

abbrev pub array_in : ResourceTree → Option ArrayItem
array_in (trees.Register word shape name (Some depth)) = Some (array shape name depth)
array_in (trees.Memory word shape name depth) = Some (array shape name depth)
array_in r = None

abbrev pub arrays_of : DescriptionTree → List ArrayItem
arrays_of d = filter_map array_in d.resources

-- an array is a memory, or a register array
abbrev pub memory_in : ResourceTree → Option Bool
memory_in (trees.Register word shape name (Some depth)) = Some false
memory_in (trees.Memory word shape name depth) = Some true
memory_in r = None

-- for each array whether it is a memory
abbrev pub memories_of : DescriptionTree → List Bool
memories_of d = filter_map memory_in d.resources

-- ---- pins

abbrev pub pin_in : ResourceTree → Option Item
pin_in (trees.Pin shape name) = Some (item shape name)
pin_in r = None

abbrev pub pins_of : DescriptionTree → List Item
pins_of d = filter_map pin_in d.resources

-- ---- registers that are no arrays, clocked ones too

abbrev pub register_in : ResourceTree → Option Item
register_in (trees.Register word shape name None) = Some (item shape name)
register_in (trees.Clocked word shape name) = Some (item shape name)
register_in r = None

abbrev pub registers_of : DescriptionTree → List Item
registers_of d = filter_map register_in d.resources

-- the bits of a resource's value, where it is such a register
abbrev pub register_bits : ResourceTree × TypedWord → Option ℕ
register_bits held = option_map (λ (register : Item). held.1.bits) (register_in held.0)

-- for each of them its bits once `reset` has run from zeros
abbrev pub first_values : DescriptionTree → List ℕ
first_values d = filter_map register_bits (zip d.resources (reset_moment d).registers)

-- ---- `reset`

abbrev pub behavior_of : DescriptionTree → Option ℕ → Option StmtTrees
behavior_of d None = None
behavior_of d (Some o) = behavior_in (sections_at d o)

abbrev pub count_of : Option StmtTrees → ℕ
count_of None = 0
count_of (Some all) = statements_count all

-- how many statements `reset` has once its loops are unrolled; 0 where there is none
abbrev pub reset_count : DescriptionTree → ℕ
reset_count d = count_of (behavior_of d (number_of d (codes "reset")))

abbrev pub nodes_in : Option StmtTrees → ℕ
nodes_in None = 0
nodes_in (Some all) = statements_nodes all

-- how many nodes it has, its statements and those of their expressions
abbrev pub reset_node_count : DescriptionTree → ℕ
reset_node_count d = nodes_in (behavior_of d (number_of d (codes "reset")))
