use Rattle.std.proofs.Common.{◌≡◌, take}
use Rattle.lisa_debug.specs.Kept.{restored}
use Rattle.lisa_debug.proofs.journal.restore.Given as goal

abbrev pub invariant-loop-change : goal.invariant-loop-change
invariant-loop-change l = l.row ≡ restored (take l.change-index l.changes) l.fn.row
