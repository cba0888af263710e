-- How each occurrence is activated, as it is kept.
use Rattle.std.specs.Prelude.{ℕ, ◌≡◌, Bool, false, List, [], Option, None, Some, cond, length, map, slice_get, slice_index_or, unwrap_or}
use Rattle.std.specs.Option.{option_map_or}
use Rattle.std.specs.Borrow.{Bor}
use Rattle.lisa_tree.specs.Descriptions.{DescriptionTree}
use Rattle.lisa_tree.specs.Same.{same_name}
use Rattle.description_sizes.specs.activation_trees.declared.parts.Occurrence.{Occurrence}
use Rattle.description_sizes.specs.activation_trees.Starting.{activating_names}
use Rattle.description_sizes.specs.activation_trees.Unfolding.{occurrences}
use Rattle.description_sizes.specs.activation_trees.Places.{name_by}
use Rattle.lisa_forms.specs.declared.way.Way.{Way}
use Rattle.lisa_forms.specs.declared.way.Way.TheVariants as ways
use Rattle.lisa_forms.specs.Choosing.{child_place}

-- a child of the coding at a place, or none
abbrev pub by_place : Option ℕ → Way
by_place None = ways.Apart
by_place (Some i) = ways.Child i

-- by a name that an operation past the root has
abbrev pub by_name : DescriptionTree → ℕ → Option (List ℕ) → Way
by_name d o None = ways.Outside
by_name d o (Some n) = by_place (child_place d o n)

-- by an occurrence
abbrev pub by_activator : DescriptionTree → ℕ → Occurrence → ℕ → Option Occurrence → Way
by_activator d k x p None = ways.Outside
by_activator d k x p (Some a) = cond a.past_root (by_name d a.operation (name_by d p a.operation k)) (cond x.past_root ways.Top ways.Outside)

abbrev pub way_below : DescriptionTree → ℕ → Occurrence → Option ℕ → Way
way_below d k x None = ways.Outside
way_below d k x (Some p) = by_activator d k x p (slice_get (occurrences d) p)

-- how the occurrence of number `k` is activated
abbrev pub way : DescriptionTree → ℕ → Occurrence → Way
way d k x = way_below d k x x.parent

pub record AreWays (d : DescriptionTree) (all : List Way) : Type 0 where
  pub count : length all ≡ length (occurrences d)
  pub each : (k : ℕ) (x : Occurrence) → slice_get (occurrences d) k ≡ Some x → slice_get all k ≡ Some (way d k x)

-- ---- tables on the way

-- a reference is to this name
abbrev pub is_name : List ℕ → Bor (List ℕ) → Bool
is_name n child = same_name n child.now

-- the ways of all that an operation past the root activates
abbrev pub ways_past : DescriptionTree → ℕ → List Way
ways_past d o = map (λ n. by_place (child_place d o n)) (activating_names d o)

-- the ways of what an occurrence activates, where it is past the root
abbrev pub ways_under : DescriptionTree → Occurrence → List Way
ways_under d a = cond a.past_root (ways_past d a.operation) []

-- an occurrence is past the root
abbrev pub is_past : List Occurrence → ℕ → Bool
is_past all p = option_map_or (λ (a : Occurrence). a.past_root) (slice_get all p) false

-- the way at a place of its activator's row
abbrev pub way_in_row : List Occurrence → List (List Way) → Occurrence → ℕ → Option ℕ → Way
way_in_row all rows x place None = ways.Outside
way_in_row all rows x place (Some p) = cond (is_past all p) (unwrap_or (slice_get (slice_index_or rows p []) place) ways.Outside) (cond x.past_root ways.Top ways.Outside)

abbrev pub way_in : List Occurrence → List (List Way) → Occurrence → ℕ → Way
way_in all rows x place = way_in_row all rows x place x.parent
