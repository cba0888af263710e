use Rattle.std.proofs.Common.{◌≡◌, ℕ, length, cond, nat_lt, ◌&&◌, Some, None}
use Rattle.graph_paths.specs.Paths.{is_in, saw}
use Rattle.least_fixed_points.specs.Settles.{entry}
use Rattle.meant_declarations.proofs.walking.Walk.begin.Given as goal

abbrev pub invariant-loop-node : goal.invariant-loop-node
invariant-loop-node l = record {
  count : length l.walk.found.items ≡ l.node;
  found : (b : ℕ) → entry l.walk.found.items b ≡ cond (nat_lt b l.node && saw l.starts b) (Some b) None;
  work : (b : ℕ) → is_in b l.walk.work.items ≡ (nat_lt b l.node && saw l.starts b);
}
