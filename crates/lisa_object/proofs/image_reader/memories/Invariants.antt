use Rattle.std.proofs.Common.{◌≤◌, ◌≡◌, List, ℕ, length}
use Rattle.std.specs.Option.{option_copied}
use Rattle.text_lines.specs.Cuts.{parts_behind}
use Rattle.lisa_object.specs.Seen.{HoldsSorted}
use Rattle.lisa_object.proofs.MemoryLoop.{Along}
use Rattle.lisa_object.proofs.image_reader.memories.Given as goal

abbrev pub invariant-each : goal.invariant-each
invariant-each l = (l.before ≤ 4194304) × ((names : List (List ℕ)) × HoldsSorted l.seen names × Along (parts_behind 10 (option_copied l.fn.left)) l.all.items l.before names (parts_behind 10 (option_copied l.rest)))

abbrev pub decreases-each : goal.decreases-each
decreases-each l = length (parts_behind 10 (option_copied l.rest))
