use Rattle.std.proofs.Common.{◌≡◌, ◌<◌, ℕ, length, true, false, None}
use Rattle.least_fixed_points.specs.Settles.{entry, missing, IsSound}
use Rattle.least_fixed_points.proofs.rounds.round.Given as goal

abbrev pub invariant-loop-node : goal.invariant-loop-node
invariant-loop-node g l = record {
  count : length l.table.items ≡ length l.fn.table.items;
  sound : IsSound (g.R.Rule.step l.rule) l.table.items;
  more : l.added ≡ true → missing l.table.items < missing l.fn.table.items;
  same : l.added ≡ false → l.table.items ≡ l.fn.table.items;
  closed : l.added ≡ false → (a : ℕ) → a < l.node → entry l.table.items a ≡ None → g.R.Rule.step l.rule (entry l.table.items) a ≡ None;
}
