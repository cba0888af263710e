-- With the uses that are left all are due.
use Rattle.std.proofs.Common.{◌≡◌, ◌+◌, ℕ, drop, length}
use Rattle.std.specs.Prelude.{sum_by}
use Rattle.access_counts.specs.Ledgers.{capped, worth, worth_from}
use Rattle.access_counts.proofs.due.due.Given as goal

abbrev pub invariant-loop-name : goal.invariant-loop-name
invariant-loop-name g l =
    let chosen = g.C.Choices.chosen l.choices in
    record {
      count : length l.due.items ≡ l.count;
      rest : (price : ℕ → ℕ) → capped (worth price l.due.items + worth_from (λ i. sum_by price (chosen i)) l.name (drop l.name l.uses)) ≡ capped (worth (λ i. sum_by price (chosen i)) l.uses);
    }
