use Rattle.std.proofs.Common.{◌≡◌, ℕ, List, drop}
use Rattle.lisa_object.specs.Seen.{HoldsSorted}
use Rattle.lisa_assembler.specs.Faults.{first_double}
use Rattle.lisa_assembler.specs.Seen.{seen_behind}
use Rattle.lisa_assembler.proofs.names.enter_labels.Given as goal

abbrev pub invariant-loop-label : goal.invariant-loop-label
invariant-loop-label l = (names : List (List ℕ)) → HoldsSorted l.fn.seen names
    → (seen : List (List ℕ)) × HoldsSorted l.seen seen
    × (first_double seen (drop l.label-index l.labels) ≡ first_double names l.labels)
    × (seen_behind seen (drop l.label-index l.labels) ≡ seen_behind names l.labels)
