use Rattle.std.proofs.Common.{◌≡◌, ◌+◌, ◌∙◌, ap, arith, length, take, subst}
use Rattle.lisa_engine.specs.PinValues.{after_lines}
use Rattle.lisa_engine.proofs.Edges.{Led, ArePlayed, fit_now, led_more}
use Rattle.lisa_engine.proofs.running.run_edges.Goals as goal

pub edge-requires : goal.edge-requires
edge-requires g c =
    let same : length c.loop-made.pins ≡ length (g.E.Engine.machine c.args.engine.now).pins = omega (arith, c.loop-made.auto.pins, c.requires.room) in
    let played : ArePlayed c.args.schedule.now (length (g.E.Engine.machine c.args.engine.now).pins) (c.args.from + c.loop-made.made + 1) c.play-next-in-loop-made.result c.play-next-in-loop-made.new.into
    = record { place = c.play-next-in-loop-made.ensures.place; values = c.play-next-in-loop-made.ensures.values ∙ ap (λ n. after_lines n (take c.play-next-in-loop-made.result c.args.schedule.now)) same } in
    fit_now g.E.Engine.present g.E.Engine.machine c.args.engine.now c.loop-made.engine c.loop-made.engine
    c.args.schedule.now c.args.from (c.args.from + c.loop-made.made) c.play-next-in-loop-made.result c.play-next-in-loop-made.new.into c.loop-made.invariant.0 c.requires.schedule played

pub loop-made-preserved : goal.loop-made-preserved
loop-made-preserved g c =
    let same : length c.loop-made.pins ≡ length (g.E.Engine.machine c.args.engine.now).pins = omega (arith, c.loop-made.auto.pins, c.requires.room) in
    let next : c.args.from + c.loop-made.made + 1 ≡ c.args.from + (c.loop-made.made + 1) = omega arith in
    let played : ArePlayed c.args.schedule.now (length (g.E.Engine.machine c.args.engine.now).pins) (c.args.from + c.loop-made.made + 1) c.play-next-in-loop-made.result c.play-next-in-loop-made.new.into
    = record { place = c.play-next-in-loop-made.ensures.place; values = c.play-next-in-loop-made.ensures.values ∙ ap (λ n. after_lines n (take c.play-next-in-loop-made.result c.args.schedule.now)) same } in (
      subst (λ edge. Led g.E.Engine.present g.E.Engine.machine c.args.engine.now c.edge.new.self c.args.schedule.now c.args.from edge) next
          (led_more g.E.Engine.present g.E.Engine.machine c.args.engine.now c.loop-made.engine c.edge.new.self
          c.args.schedule.now c.args.from (c.args.from + c.loop-made.made) c.play-next-in-loop-made.result c.play-next-in-loop-made.new.into c.loop-made.invariant.0 c.requires.schedule played
          c.edge.ensures.leads c.edge.ensures.machine),
      subst (λ edge. ArePlayed c.args.schedule.now (length (g.E.Engine.machine c.args.engine.now).pins) edge c.play-next-in-loop-made.result c.play-next-in-loop-made.new.into) next played,
    )
