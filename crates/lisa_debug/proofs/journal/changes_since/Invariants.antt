use Rattle.std.proofs.Common.{◌≡◌, ◌<◌, ◌++◌, take, drop, length}
use Rattle.std.specs.Prelude.{All}
use Rattle.lisa_debug.specs.Kept.{restored}
use Rattle.lisa_debug.proofs.journal.changes_since.Given as goal

abbrev pub invariant-loop-item : goal.invariant-loop-item
invariant-loop-item g l =
    (restored l.changes.items (g.E.Engine.present l.engine).items ≡ take l.item l.row ++ drop l.item (g.E.Engine.present l.engine).items)
    × All (λ change. change.item < length (g.E.Engine.machine l.engine).items) l.changes.items
