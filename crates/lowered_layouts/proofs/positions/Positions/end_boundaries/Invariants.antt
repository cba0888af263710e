-- The ends of the first boundaries stand behind the draft.
use Rattle.std.specs.List.{flat_map, range_with_len}
use Rattle.lowered_time.specs.Pieces.{steps}
use Rattle.lowered_time.specs.Code.{Adds}
use Rattle.lowered_layouts.specs.Ends.{boundary_ends}
use Rattle.lowered_layouts.specs.Laws.{held_temp, open_temp}
use Rattle.lowered_layouts.specs.Code.{positions_tree}
use Rattle.lowered_layouts.proofs.positions.Positions.end_boundaries.Given as goal

abbrev pub invariant-loop-boundary : goal.invariant-loop-boundary
invariant-loop-boundary l = Adds (steps (flat_map (boundary_ends (positions_tree l.self) held_temp open_temp) (range_with_len 0 l.boundary))) l.fn.draft l.draft
