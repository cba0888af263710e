use Rattle.lowered_edges.proofs.Copying.{copied_more}
use Rattle.lowered_edges.proofs.programs.copied_arrays.Goals as goal

pub loop-array-preserved : goal.loop-array-preserved
loop-array-preserved c =
    copied_more c.args.arrays.now c.loop-array.copies.items c.push.new.self.items c.loop-array.array-index c.array-item.result c.in_ok-copy.copy c.loop-array.invariant c.loop-array-test.true c.array-item.is c.in_ok-copy.ensures
    c.in_ok-push.ensures.items
