use Rattle.std.proofs.Common.{◌≡◌, ℕ, ◌<◌, ◌≤◌, length, get_or}
use Rattle.lisa_engine.proofs.schedule.last_sign.Given as goal

abbrev pub invariant-loop-end : goal.invariant-loop-end
invariant-loop-end l = (l.end ≤ length l.word) × ((k : ℕ) → l.end ≤ k → k < length l.word → get_or l.word k 0 ≡ 61 → ⊥)

abbrev pub decreases-loop-end : goal.decreases-loop-end
decreases-loop-end l = l.end
