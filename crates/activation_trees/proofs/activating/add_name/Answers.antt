use Rattle.activation_trees.proofs.Placing.{once_more}
use Rattle.activation_trees.proofs.activating.add_name.Goals as goal

pub loop-alternative-preserved : goal.loop-alternative-preserved
loop-alternative-preserved g c =
    once_more c.args.name c.loop-alternative.row.items c.push.new.self.items c.plain_at-alternative-items.result.now c.loop-alternative._alternative-index _ c.loop-alternative-test.true c.in_ok-push.ensures.items
    c.loop-alternative.invariant
