use Rattle.std.proofs.Common.{◌≡◌, ℕ, ◌<◌, ◌≤◌, length, take, get_or}
use Rattle.lisa_engine.specs.ScheduleLine.{Line}
use Rattle.lisa_engine.specs.PinValues.{after_lines}
use Rattle.lisa_engine.proofs.schedule.Schedule.play.Given as goal

abbrev pub invariant-loop-place : goal.invariant-loop-place
invariant-loop-place l =
    (l.into ≡ after_lines (length l.fn.into) (take l.place l.self)) × ((k : ℕ) (line : Line) → k < l.place → (get_or l.self k line).edge ≤ l.edge)
