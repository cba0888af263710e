use Rattle.least_fixed_points.proofs.Entries.{one_more_none}
use Rattle.least_fixed_points.proofs.rounds.no_values.Goals as goal

pub loop-node-preserved : goal.loop-node-preserved
loop-node-preserved g c = one_more_none _ _ _ c.loop-node.invariant c.in_ok-push.ensures.items
