use Rattle.std.proofs.Common.{arith, ◌<◌, ◌++◌, ◌∷◌, [], ◌∙◌, ap, sym, length}
use Rattle.std.proofs.lemmas.List.{take_more, take_all}
use Rattle.vcd_trace.proofs.runs.item_values.Goals as goal

pub loop-place-preserved : goal.loop-place-preserved
loop-place-preserved g c =
    let values = (g.met.E.Engine.shaped c.args.engine.now).values in
    let within : c.loop-place.place < length (g.E.Engine.present c.args.engine.now).items = omega (arith, values.count, ap length c.items-count.ensures) in
    c.in_ok-push.ensures.items ∙ (λ i. c.loop-place.invariant i ++ c.value.ensures i ∷ []) ∙ sym (take_more (g.E.Engine.present c.args.engine.now).items c.loop-place.place 0 within)

pub returns : goal.returns
returns g c =
    let values = (g.met.E.Engine.shaped c.args.engine.now).values in
    c.loop-place.invariant ∙ take_all c.loop-place.place (g.E.Engine.present c.args.engine.now).items (omega (arith, values.count, ap length c.items-count.ensures))
