use Rattle.std.proofs.Common.{◌≤◌, ◌≡◌, List, [], ℕ, length, map}
use Rattle.std.specs.Option.{option_copied}
use Rattle.text_lines.specs.Cuts.{parts_behind}
use Rattle.lisa_object.specs.Seen.{HoldsSorted}
use Rattle.lisa_object.specs.Objects.{object_line_tree}
use Rattle.lisa_object.specs.LineMachine.{start}
use Rattle.lisa_object.specs.ObjectReading.{lines_of}
use Rattle.lisa_object.proofs.LineLoop.{lines_with}
use Rattle.lisa_object.proofs.object_reader.lines.Given as goal

abbrev pub invariant-each : goal.invariant-each
invariant-each l = (l.standing.width ≤ 64) × (l.standing.below ≤ 64) × ((names : List (List ℕ)) × HoldsSorted l.seen names × (lines_with (map object_line_tree l.all.items) (lines_of l.standing names (parts_behind 10 (option_copied l.rest))) ≡ lines_of start [] (parts_behind 10 (option_copied l.fn.left))))

abbrev pub decreases-each : goal.decreases-each
decreases-each l = length (parts_behind 10 (option_copied l.rest))
