-- The fields of boundaries as an edge ends. On the way to the program: nothing here needs to be trusted.
use Rattle.std.specs.Prelude.{ℕ, zero, suc, List, length, map}
use Rattle.std.specs.List.{flat_map, range_with_len}
use Rattle.lisa_tree.specs.Descriptions.{DescriptionTree}
use Rattle.lisa_tree.specs.Resources.{fields}
use Rattle.step_program.specs.Programs.{Expr, Const, Before, Temp, Choose, ToItem, Move}
use Rattle.step_pieces.specs.Pieces.{Builder, always}
use Rattle.lowered_time.specs.Pieces.{steps, given}
use Rattle.lowered_resources.specs.Places.{Written, Out, field_width}
use Rattle.lowered_layouts.specs.Temps.{temp, boundary_count}
use Rattle.lowered_layouts.specs.Items.{field_place}

module _ (d : DescriptionTree) where
  -- what stood in the boundary before; there is none before the first
  abbrev pub before_field : ℕ → ℕ → Expr
  before_field zero f = Const (field_width d f) 0
  before_field (suc s) f = Before (field_place d s f)

  -- what was written to it, or what stood in the boundary before
  abbrev pub moved_field : ℕ → ℕ → Expr
  moved_field s f = Choose (Temp (temp d (Written s f))) (Temp (temp d (Out s f))) (before_field s f)

  module _ (held free : ℕ → Expr) where
    -- Where the stage behind the boundary is held, a field stays. Where the stage before it is held or flushed, it is 0. Else it moves.
    abbrev pub next_field : ℕ → ℕ → Expr
    next_field s f = Choose (held (suc (suc s))) (Before (field_place d s f)) (Choose (free (suc s)) (moved_field s f) (Const (field_width d f) 0))

    abbrev pub field_end : ℕ → ℕ → Move
    field_end s f = given always (ToItem (field_place d s f)) (next_field s f)

    abbrev pub boundary_ends : ℕ → List Move
    boundary_ends s = map (field_end s) (range_with_len 0 (length (fields d)))

    abbrev pub ends : Builder
    ends = steps (flat_map boundary_ends (range_with_len 0 (boundary_count d)))
