use Rattle.std.proofs.Common.{◌≡◌, ℕ, List, map}
use Rattle.lisa_board.specs.Feeding.{counter_after}
use Rattle.lisa_board.proofs.Counters.{partly}
use Rattle.lisa_board.proofs.timers.tick_all.Given as goal

abbrev pub invariant-loop-place : goal.invariant-loop-place
invariant-loop-place g l =
    (rows : List (List ℕ)) → l.fn.counters ≡ map (λ timer. counter_after timer rows) l.timers → l.counters ≡ partly l.timers rows (g.E.Engine.present l.engine).items l.place
