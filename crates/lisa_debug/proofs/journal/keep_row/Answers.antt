use Rattle.std.proofs.Common.{◌≡◌, ◌<◌, ◌∙◌, ap, arith, length, set}
use Rattle.lisa_debug.proofs.Rows.{seam, all_written}
use Rattle.lisa_debug.proofs.journal.keep_row.Goals as goal

pub loop-place-preserved : goal.loop-place-preserved
loop-place-preserved g c =
    let shape = g.met.E.Engine.shaped c.args.engine.now in
    let same : length (g.E.Engine.present c.args.engine.now).items ≡ length c.args.row.now = omega (arith, shape.values.count, c.requires) in
    let within : c.loop-place.place < length c.args.row.now = omega arith in
    ap (λ row. set row c.loop-place.place c.value.result) c.loop-place.invariant
    ∙ seam c.loop-place.place (g.E.Engine.present c.args.engine.now).items c.args.row.now c.value.result within same c.value.ensures

pub returns : goal.returns
returns g c =
    let shape = g.met.E.Engine.shaped c.args.engine.now in
    c.loop-place.invariant ∙ all_written c.loop-place.place (g.E.Engine.present c.args.engine.now).items c.args.row.now (omega (arith, shape.values.count, c.requires)) (omega arith)
