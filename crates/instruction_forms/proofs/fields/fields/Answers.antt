use Rattle.least_fixed_points.specs.Settles.{entry}
use Rattle.instruction_forms.specs.Picks.{own_fields}
use Rattle.instruction_forms.proofs.Fielding.{next_high, one_more_field}
use Rattle.instruction_forms.proofs.fields.fields.Goals as goal

pub loop-item-preserved : goal.loop-item-preserved
loop-item-preserved g c =
    let d = g.N.Names.tree c.args.sources.now.names.now in
    let known = entry c.args.sources.now.widths.now in
    let p = c.args.pick in
    let all = c.own_items-items.result.now in
    let item = c.item-item.result in
    record {
      high = next_high known d p.operation p.low all c.loop-item.item-index item c.loop-item-test.true c.item-item.is c.loop-item.high c.item_span-high.result c.loop-item.invariant.high c.item_span-high.ensures;
      fields = one_more_field known d p.operation p.low all c.loop-item.item-index item c.loop-item-test.true c.item-item.is c.loop-item.fields.items c.add_field.new.fields.items (own_fields known d p.operation p.low all)
          c.loop-item.high c.item_span-high.result c.loop-item.invariant.high c.item_span-high.ensures c.in_ok-add_field.ensures c.loop-item.invariant.fields;
    }
