-- With the occurrences that are left all are counted.
use Rattle.std.proofs.Common.{◌≡◌, ◌+◌, ℕ, drop, length}
use Rattle.std.specs.Prelude.{sum_by}
use Rattle.access_counts.specs.Ledgers.{capped, worth}
use Rattle.description_weight.proofs.pairs.times.Given as goal

abbrev pub invariant-loop-occurrence : goal.invariant-loop-occurrence
invariant-loop-occurrence l = record {
  count : length l.times.items ≡ l.count;
  rest : (price : ℕ → ℕ) → capped (worth price l.times.items + sum_by (λ x. price x.operation) (drop l.occurrence-index l.occurrences)) ≡ capped (sum_by (λ x. price x.operation) l.occurrences);
}
