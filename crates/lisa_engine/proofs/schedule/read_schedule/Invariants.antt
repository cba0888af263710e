use Rattle.std.proofs.Common.{◌≡◌, ◌+◌, map, drop}
use Rattle.std.specs.Str.Lines.{lines_of_parts}
use Rattle.lisa_engine.specs.Schedules.{schedule_of, lines_from}
use Rattle.lisa_engine.proofs.LineTexts.{ahead}
use Rattle.lisa_engine.proofs.schedule.read_schedule.Given as goal

abbrev pub invariant-loop-place : goal.invariant-loop-place
invariant-loop-place l =
    schedule_of l.fn.pins l.fn.bytes ≡ ahead l.lines.items (lines_from l.fn.pins (l.place + 1) l.before (lines_of_parts (drop l.place (map (λ p. p.now) l.parts.items))))
