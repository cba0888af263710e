use Rattle.std.proofs.Common.{◌≡◌, ◌++◌, take, drop}
use Rattle.lisa_debug.proofs.journal.keep_row.Given as goal

abbrev pub invariant-loop-place : goal.invariant-loop-place
invariant-loop-place g l = l.row ≡ take l.place (g.E.Engine.present l.engine).items ++ drop l.place l.fn.row
