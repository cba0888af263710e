use Rattle.std.proofs.Common.{◌-◌, refl}
use Rattle.least_fixed_points.specs.Settles.{entry}
use Rattle.instruction_forms.specs.declared.picking.Walk.{Walk}
use Rattle.instruction_forms.proofs.Walking.{span_fits, past_bits}
use Rattle.instruction_forms.proofs.picking.step.Goals as goal

pub item_span-requires : goal.item_span-requires
item_span-requires g c =
    span_fits (entry c.args.sources.now.widths.now) (g.N.Names.tree c.args.sources.now.names.now) c.args.operation c.args.low c.args.items.now c.args.place c.index-items-place.result c.args.walk.now
    c.requires.place c.index-items-place.is c.requires.walk

pub returns-in-Bits-clause-walk : goal.returns-in-Bits-clause-walk
returns-in-Bits-clause-walk g c =
    let w = c.args.walk.now in
    let v : Walk = record { number = w.number; left = w.left; high = w.high - c.item_span.result } in
    past_bits (entry c.args.sources.now.widths.now) (g.N.Names.tree c.args.sources.now.names.now) c.args.operation c.args.low c.args.items.now c.args.place c.index-items-place.result
    c.requires.place c.index-items-place.is c.in-Bits.field-0 c.in-Bits.is w v c.item_span.result c.item_span.ensures c.requires.walk refl refl refl
