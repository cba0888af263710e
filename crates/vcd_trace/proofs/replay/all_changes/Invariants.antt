use Rattle.std.proofs.Common.{◌≡◌, take}
use Rattle.std.specs.List.{enumerate_from}
use Rattle.vcd_trace.proofs.replay.all_changes.Given as goal

abbrev pub invariant-loop-place : goal.invariant-loop-place
invariant-loop-place l = l.changes.items ≡ take l.place (enumerate_from 0 l.now)
