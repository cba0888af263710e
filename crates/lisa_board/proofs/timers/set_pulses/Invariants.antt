use Rattle.std.proofs.Common.{◌≡◌, ℕ, List, take, map}
use Rattle.std.specs.Prelude.{fold}
use Rattle.lisa_engine.specs.PinValues.{set_pin}
use Rattle.lisa_board.specs.Feeding.{counter_after, pulse_of}
use Rattle.lisa_board.proofs.timers.set_pulses.Given as goal

abbrev pub invariant-loop-place : goal.invariant-loop-place
invariant-loop-place l =
    (rows : List (List ℕ)) → l.counters ≡ map (λ timer. counter_after timer rows) l.timers → l.pins ≡ fold set_pin l.fn.pins (map (pulse_of rows) (take l.place l.timers))
