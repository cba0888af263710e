use Rattle.std.proofs.Common.{◌≡◌, take}
use Rattle.std.specs.List.{flat_map, zip, enumerate_from}
use Rattle.vcd_trace.specs.Meaning.{if_changed}
use Rattle.vcd_trace.proofs.replay.changes_since.Given as goal

abbrev pub invariant-loop-place : goal.invariant-loop-place
invariant-loop-place l = l.changes.items ≡ flat_map if_changed (take l.place (enumerate_from 0 (zip l.before l.now)))
