-- The conditions on widths, depths and loops, at each place.
use Rattle.std.specs.Prelude.{ℕ, ◌-◌, ◌^◌, Bool, List, [], ◌∷◌, length, min, Option, None, Some, cond, nat_le, nat_lt, ◌&&◌}
use Rattle.std.specs.Int.{is_power_of_two}
use Rattle.std.specs.Option.{option_or}
use Rattle.lisa_tree.specs.declared.tokens.Shape.{Shape}
use Rattle.lisa_tree.specs.declared.descriptions.Pattern.{Pattern}
use Rattle.lisa_tree.specs.declared.faults.DescFault.{DescFault}
use Rattle.lisa_tree.specs.declared.faults.DescFault.TheVariants as faults
use Rattle.lisa_tree.specs.Statements.{HeadTree}
use Rattle.lisa_tree.specs.Descriptions as trees
use Rattle.lisa_tree.specs.Descriptions.{ResourceTree, DescriptionTree}
use Rattle.lisa_tree.specs.Operations.{name_at}
use Rattle.description_places.specs.Places.{Condition, Resource, Field, Casts, Local, Loops, Counts}
use Rattle.shape_checks.specs.declared.bounds.Bounds.{Bounds}
use Rattle.shape_checks.specs.Bounds.{bounds_of, turns, holds_values}

-- ---- widths

abbrev pub is_width : ℕ → Bool
is_width width = nat_le 1 width && nat_le width 64

abbrev pub width_fault : List ℕ → ℕ → Option DescFault
width_fault n width = cond (is_width width) None (Some (faults.BadWidth n width))

abbrev pub field_fault : List (Shape × List ℕ) → Option DescFault
field_fault [] = None
field_fault (field ∷ rest) = option_or (width_fault field.1 field.0.width) (field_fault rest)

abbrev pub resource_width : ResourceTree → Option DescFault
resource_width (trees.Register word shape n depth) = width_fault n shape.width
resource_width (trees.Clocked word shape n) = width_fault n shape.width
resource_width (trees.Memory word shape n depth) = width_fault n shape.width
resource_width (trees.Pin shape n) = width_fault n shape.width
resource_width (trees.Pipeline n stages) = None
resource_width (trees.Fields pipe fields) = field_fault fields

-- how many bits a pattern has, as far as a width can be told
abbrev pub times_or : Option ℕ → ℕ → ℕ
times_or None digits = min digits (2 ^ 32 - 1)
times_or (Some times) digits = times

abbrev pub bit_count : Pattern → ℕ
bit_count pattern = times_or pattern.times (length pattern.digits)

-- the variable of a loop: its type, and whether that has all values of a bounded loop
abbrev pub counter_width : Option Shape → HeadTree → Option DescFault
counter_width None head = None
counter_width (Some shape) head = cond (is_width shape.width && holds_values shape (bounds_of head)) None (Some (faults.BadWidth head.name shape.width))

-- a width isn't from 1 to 64, or a loop's variable can't hold one of its values
abbrev pub bad_width : Condition DescFault
bad_width o region scope (Resource k r) = resource_width r
bad_width o region scope (Field n pattern) = width_fault n (bit_count pattern)
bad_width o region scope (Casts shape) = width_fault [] shape.width
bad_width o region scope (Local shape n value) = width_fault n shape.width
bad_width o region scope (Counts head) = counter_width head.shape head
bad_width o region scope _ = None

-- ---- depths

-- a power of two from 2 to 1,048,576
abbrev pub is_depth : ℕ → Bool
is_depth depth = is_power_of_two depth && nat_le 2 depth && nat_le depth 1048576

abbrev pub depth_fault : List ℕ → ℕ → Option DescFault
depth_fault n depth = cond (is_depth depth) None (Some (faults.BadDepth n depth))

abbrev pub array_fault : List ℕ → Option ℕ → Option DescFault
array_fault n None = None
array_fault n (Some depth) = depth_fault n depth

abbrev pub resource_depth : ResourceTree → Option DescFault
resource_depth (trees.Register word shape n depth) = array_fault n depth
resource_depth (trees.Memory word shape n depth) = depth_fault n depth
resource_depth _ = None

-- an array's depth isn't a power of two from 2 to 1,048,576
abbrev pub bad_depth : Condition DescFault
bad_depth o region scope (Resource k r) = resource_depth r
bad_depth o region scope _ = None

-- ---- loops

abbrev pub open_fault : List ℕ → Option Bounds → Option DescFault
open_fault n None = Some (faults.LoopWithoutBound n)
open_fault n (Some b) = None

-- a loop isn't of the bounded form
abbrev pub without_bound : DescriptionTree → Condition DescFault
without_bound d o region scope Loops = Some (faults.LoopWithoutBound (name_at d o))
without_bound d o region scope (Counts head) = open_fault (name_at d o) (bounds_of head)
without_bound d o region scope _ = None

abbrev pub long_fault : List ℕ → Option Bounds → Option DescFault
long_fault n None = None
long_fault n (Some b) = cond (nat_lt 256 (turns b)) (Some (faults.LoopTooLong n (turns b))) None

-- a bounded loop has more than 256 turns
abbrev pub too_long : DescriptionTree → Condition DescFault
too_long d o region scope (Counts head) = long_fault (name_at d o) (bounds_of head)
too_long d o region scope _ = None
