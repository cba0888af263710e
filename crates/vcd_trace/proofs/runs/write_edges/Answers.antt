use Rattle.std.proofs.Common.{◌≡◌, ◌+◌, ◌∙◌, ap, sym, arith, length, take}
use Rattle.lisa_io.proofs.Known.{puts_then, puts_stop, puts_exit}
use Rattle.lisa_engine.specs.PinValues.{after_lines}
use Rattle.lisa_engine.specs.Machines.{course_of, state_at}
use Rattle.lisa_engine.proofs.Edges.{Led, ArePlayed, fit_now, led_more}
use Rattle.vcd_trace.proofs.EdgeTexts.{edges_more, edges_rest, puts_over}
use Rattle.vcd_trace.proofs.runs.write_edges.Goals as goal

pub write_edge-requires-clause-pins : goal.write_edge-requires-clause-pins
write_edge-requires-clause-pins g c =
    let same : length c.loop-made.pins ≡ length (g.E.Engine.machine c.args.engine.now).pins = omega (arith, c.loop-made.auto.pins, c.requires.room) in
    let played : ArePlayed c.args.schedule.now (length (g.E.Engine.machine c.args.engine.now).pins) (c.loop-made.made + 1) c.play-next-in-loop-made.result c.play-next-in-loop-made.new.into
    = record { place = c.play-next-in-loop-made.ensures.place; values = c.play-next-in-loop-made.ensures.values ∙ ap (λ n. after_lines n (take c.play-next-in-loop-made.result c.args.schedule.now)) same } in
    fit_now g.E.Engine.present g.E.Engine.machine c.args.engine.now c.loop-made.engine c.loop-made.engine
    c.args.schedule.now 0 c.loop-made.made c.play-next-in-loop-made.result c.play-next-in-loop-made.new.into c.loop-made.invariant.0 c.requires.schedule played

pub write_edge-requires-clause-few : goal.write_edge-requires-clause-few
write_edge-requires-clause-few g c = omega (arith, ap (λ m. length m.items) c.loop-made.invariant.0.kept, c.requires.few)

pub returns-in_err-write_edge-clause-text : goal.returns-in_err-write_edge-clause-text
returns-in_err-write_edge-clause-text g c =
    let same : length c.loop-made.pins ≡ length (g.E.Engine.machine c.args.engine.now).pins = omega (arith, c.loop-made.auto.pins, c.requires.room) in
    let played : ArePlayed c.args.schedule.now (length (g.E.Engine.machine c.args.engine.now).pins) (c.loop-made.made + 1) c.play-next-in-loop-made.result c.play-next-in-loop-made.new.into
    = record { place = c.play-next-in-loop-made.ensures.place; values = c.play-next-in-loop-made.ensures.values ∙ ap (λ n. after_lines n (take c.play-next-in-loop-made.result c.args.schedule.now)) same } in
    let next : Led g.E.Engine.present g.E.Engine.machine c.args.engine.now c.write_edge.new.engine c.args.schedule.now 0 (c.loop-made.made + 1)
    = led_more g.E.Engine.present g.E.Engine.machine c.args.engine.now c.loop-made.engine c.write_edge.new.engine
    c.args.schedule.now 0 c.loop-made.made c.play-next-in-loop-made.result c.play-next-in-loop-made.new.into c.loop-made.invariant.0 c.requires.schedule played
    c.write_edge.ensures.leads c.write_edge.ensures.machine in
    let rest = edges_rest (g.E.Engine.machine c.args.engine.now).items
    (λ k. (state_at (course_of (g.E.Engine.machine c.args.engine.now) c.args.schedule.now) k).items) (c.loop-made.made + 1) c.args.count (omega arith) in
    puts_over (sym rest.1) (puts_exit _ _ c.from_residual.ensures.1 (puts_stop rest.0
    (puts_over (edges_more g.E.Engine.present g.E.Engine.machine c.args.engine.now c.loop-made.engine c.write_edge.new.engine
    c.args.schedule.now c.loop-made.made c.requires.first c.loop-made.invariant.0 next)
    (puts_then c.loop-made.invariant.2 c.in_err-write_edge.ensures.text))))

pub returns-in_err-write_edge-clause-within : goal.returns-in_err-write_edge-clause-within
returns-in_err-write_edge-clause-within g c =
    let same : length c.loop-made.pins ≡ length (g.E.Engine.machine c.args.engine.now).pins = omega (arith, c.loop-made.auto.pins, c.requires.room) in
    let played : ArePlayed c.args.schedule.now (length (g.E.Engine.machine c.args.engine.now).pins) (c.loop-made.made + 1) c.play-next-in-loop-made.result c.play-next-in-loop-made.new.into
    = record { place = c.play-next-in-loop-made.ensures.place; values = c.play-next-in-loop-made.ensures.values ∙ ap (λ n. after_lines n (take c.play-next-in-loop-made.result c.args.schedule.now)) same } in
    let next : Led g.E.Engine.present g.E.Engine.machine c.args.engine.now c.write_edge.new.engine c.args.schedule.now 0 (c.loop-made.made + 1)
    = led_more g.E.Engine.present g.E.Engine.machine c.args.engine.now c.loop-made.engine c.write_edge.new.engine
    c.args.schedule.now 0 c.loop-made.made c.play-next-in-loop-made.result c.play-next-in-loop-made.new.into c.loop-made.invariant.0 c.requires.schedule played
    c.write_edge.ensures.leads c.write_edge.ensures.machine in
    (c.loop-made.made + 1, omega arith, next.leads c.requires.first)

pub returns-clause-within : goal.returns-clause-within
returns-clause-within g c = (c.loop-made.made, omega arith, c.loop-made.invariant.0.leads c.requires.first)

pub loop-made-preserved : goal.loop-made-preserved
loop-made-preserved g c =
    let same : length c.loop-made.pins ≡ length (g.E.Engine.machine c.args.engine.now).pins = omega (arith, c.loop-made.auto.pins, c.requires.room) in
    let played : ArePlayed c.args.schedule.now (length (g.E.Engine.machine c.args.engine.now).pins) (c.loop-made.made + 1) c.play-next-in-loop-made.result c.play-next-in-loop-made.new.into
    = record { place = c.play-next-in-loop-made.ensures.place; values = c.play-next-in-loop-made.ensures.values ∙ ap (λ n. after_lines n (take c.play-next-in-loop-made.result c.args.schedule.now)) same } in
    let next : Led g.E.Engine.present g.E.Engine.machine c.args.engine.now c.write_edge.new.engine c.args.schedule.now 0 (c.loop-made.made + 1)
    = led_more g.E.Engine.present g.E.Engine.machine c.args.engine.now c.loop-made.engine c.write_edge.new.engine
    c.args.schedule.now 0 c.loop-made.made c.play-next-in-loop-made.result c.play-next-in-loop-made.new.into c.loop-made.invariant.0 c.requires.schedule played
    c.write_edge.ensures.leads c.write_edge.ensures.machine in (
      next,
      played,
      puts_over (edges_more g.E.Engine.present g.E.Engine.machine c.args.engine.now c.loop-made.engine c.write_edge.new.engine
          c.args.schedule.now c.loop-made.made c.requires.first c.loop-made.invariant.0 next)
          (puts_then c.loop-made.invariant.2 c.in_ok-write_edge.ensures.text),
      c.in_ok-write_edge.ensures.row,
    )
