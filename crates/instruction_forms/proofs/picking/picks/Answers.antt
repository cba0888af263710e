use Rattle.std.proofs.Common.{◌++◌, List, refl, ap}
use Rattle.least_fixed_points.specs.Settles.{entry}
use Rattle.instruction_forms.specs.declared.picking.Pick.{Pick}
use Rattle.instruction_forms.specs.declared.picking.Walk.{Walk}
use Rattle.instruction_forms.specs.Picks.{child_picks}
use Rattle.instruction_forms.proofs.Whole.{start_walk}
use Rattle.instruction_forms.proofs.picking.picks.Goals as goal

pub loop-place-init : goal.loop-place-init
loop-place-init g c =
    let d = g.N.Names.tree c.args.sources.now.names.now in
    let known = entry c.args.sources.now.widths.now in
    let p = c.args.pick in
    let v : Walk = record { number = p.number; left = c.of_operation.result; high = c.end.result } in
    record {
      walk = start_walk d c.args.sources.now.acyclic known c.requires.wide (entry c.args.sources.now.counts.now) c.args.sources.now.counted p c.requires.there c.requires.pick c.own_items-items.result.now c.own_items-items.ensures v refl c.of_operation.ensures c.end.ensures;
      picks = ap (λ (xs : List Pick). xs ++ child_picks known d p.operation p.low c.own_items-items.result.now p.number) c.new-picks.ensures.items;
    }
