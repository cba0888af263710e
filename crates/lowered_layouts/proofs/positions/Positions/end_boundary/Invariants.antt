-- The ends of the first fields stand behind the draft.
use Rattle.std.proofs.Common.{map}
use Rattle.std.specs.List.{range_with_len}
use Rattle.lowered_time.specs.Pieces.{steps}
use Rattle.lowered_time.specs.Code.{Adds}
use Rattle.lowered_layouts.specs.Ends.{field_end}
use Rattle.lowered_layouts.specs.Laws.{held_temp, open_temp}
use Rattle.lowered_layouts.specs.Code.{positions_tree}
use Rattle.lowered_layouts.proofs.positions.Positions.end_boundary.Given as goal

abbrev pub invariant-loop-field : goal.invariant-loop-field
invariant-loop-field l = Adds (steps (map (field_end (positions_tree l.self) held_temp open_temp l.boundary) (range_with_len 0 l.field))) l.fn.draft l.draft
