use Rattle.std.proofs.Common.{◌<◌, length, arith}
use Rattle.std.proofs.lemmas.List.{get_or_default}
use Rattle.lowered_layouts.proofs.Spotted.{noted_on}
use Rattle.lowered_layouts.proofs.spots.spot_table.Goals as goal

pub loop-item-preserved : goal.loop-item-preserved
loop-item-preserved c = λ s.
    let low : c.loop-item.item < length c.args.places.now = omega (arith, c.loop-item-test.true) in
    noted_on s c.args.places.now c.loop-item.item c.in_ok-item.item _ _ _ low (get_or_default c.args.places.now c.loop-item.item _ _ low) c.in_ok-item.ensures (c.loop-item.invariant s) (c.in_ok-enter.ensures s)
