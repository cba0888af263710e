use Rattle.std.proofs.Common.{◌∙◌, List, ap, length, sym, subst}
use Rattle.lisa_engine.specs.PinValues.{IsFor}
use Rattle.lisa_engine.specs.declared.parts.Item.{Item}
use Rattle.simulator_tests.proofs.edges.count_edges.Goals as goal

pub each-preserved : goal.each-preserved
each-preserved c =
    let edge = c.make_edge-seen.ensures in
    record {
      schedule = subst (λ (pins : List Item). IsFor pins c.args.schedule.now) (sym edge.pins) c.each.invariant.schedule;
      room = edge.room ∙ c.each.invariant.room ∙ ap length (sym edge.pins);
    }
