use Rattle.std.proofs.Common.{◌<◌, arith}
use Rattle.item_layouts.specs.Layouts.{Layout}
use Rattle.item_layouts.proofs.Ranges.{one_bit}
use Rattle.item_layouts.proofs.places.add_stage.Goals as goal

pub loop-occurrence-preserved : goal.loop-occurrence-preserved
loop-occurrence-preserved g c =
    let layout : Layout = g.A.Arrangement.layout c.args.arrangement.now in
    let all = c.occurrences-occurrence-end.ensures in
    let within : c.loop-occurrence.occurrence < layout.occurrences = omega (arith, all) in
    one_bit c.args.stage (layout.stands c.args.stage) c.loop-occurrence.places.items c.add_bit.new.places.items _ c.loop-occurrence.occurrence layout.occurrences within c.loop-occurrence.invariant c.in_ok-add_bit.ensures
