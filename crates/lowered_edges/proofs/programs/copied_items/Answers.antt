use Rattle.lowered_edges.proofs.Copying.{copied_more}
use Rattle.lowered_edges.proofs.programs.copied_items.Goals as goal

pub loop-item-preserved : goal.loop-item-preserved
loop-item-preserved c =
    copied_more c.args.items.now c.loop-item.copies.items c.push.new.self.items c.loop-item.item-index c.item-item.result c.in_ok-copy.copy c.loop-item.invariant c.loop-item-test.true c.item-item.is c.in_ok-copy.ensures
    c.in_ok-push.ensures.items
