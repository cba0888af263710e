-- What is left is worth all.
use Rattle.std.proofs.Common.{◌≡◌, ℕ, drop}
use Rattle.access_counts.specs.Ledgers.{worth, worth_from}
use Rattle.access_counts.proofs.rounds.is_nothing.Given as goal

abbrev pub invariant-loop-count : goal.invariant-loop-count
invariant-loop-count l = (price : ℕ → ℕ) → worth_from price l.count-index (drop l.count-index l.counts) ≡ worth price l.counts
