-- With the operations that are left all are added to.
use Rattle.std.proofs.Common.{◌≡◌, ◌+◌, ◌*◌, ℕ, drop, length}
use Rattle.std.specs.Prelude.{sum_by}
use Rattle.access_counts.specs.Ledgers.{capped, worth}
use Rattle.access_counts.proofs.due.add_all.Given as goal

abbrev pub invariant-loop-operation : goal.invariant-loop-operation
invariant-loop-operation l = record {
  count : length l.counts.items ≡ length l.fn.counts.items;
  rest : (price : ℕ → ℕ) → capped (worth price l.counts.items + l.times * sum_by price (drop l.operation-index l.operations)) ≡ capped (worth price l.fn.counts.items + l.times * sum_by price l.operations);
}
