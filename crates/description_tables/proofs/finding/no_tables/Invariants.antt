use Rattle.std.proofs.Common.{◌≡◌, ℕ, List, length, None}
use Rattle.description_tables.specs.Laws.{find_in}
use Rattle.description_tables.proofs.finding.no_tables.Given as goal

abbrev pub invariant-loop-number : goal.invariant-loop-number
invariant-loop-number l = record {
  count : length l.tables.items ≡ l._number;
  none : (o : ℕ) → (n : List ℕ) → find_in l.tables.items o n ≡ None;
}
