use Rattle.std.proofs.Common.{◌≡◌, ℕ, List, length, take}
use Rattle.std.specs.Prelude.{position}
use Rattle.description_tables.specs.Laws.{find_in, declares}
use Rattle.description_tables.proofs.finding.index_names.Given as goal

abbrev pub invariant-loop-place : goal.invariant-loop-place
invariant-loop-place l = record {
  count : length l.tables.items ≡ l.count;
  found : (o : ℕ) → (n : List ℕ) → find_in l.tables.items o n ≡ position (declares o n) (take l.place l.entries);
}
