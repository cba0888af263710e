use Rattle.std.proofs.Common.{◌≡◌, None, replicate}
use Rattle.least_fixed_points.proofs.rounds.no_values.Given as goal

abbrev pub invariant-loop-node : goal.invariant-loop-node
invariant-loop-node g l = l.table.items ≡ replicate l._node None
