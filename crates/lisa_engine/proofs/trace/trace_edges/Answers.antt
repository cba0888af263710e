use Rattle.std.proofs.Common.{◌≡◌, ◌+◌, ◌∙◌, ap, sym, arith, length, take, subst}
use Rattle.lisa_engine.specs.PinValues.{after_lines}
use Rattle.lisa_engine.specs.Machines.{course_of, state_at}
use Rattle.lisa_engine.proofs.Edges.{Led, ArePlayed, fit_now, led_more}
use Rattle.lisa_engine.proofs.TraceTexts.{changes_more, changes_rest, unless_then, unless_stop, unless_over}
use Rattle.lisa_engine.proofs.trace.trace_edges.Goals as goal

pub trace_edge-requires-clause-pins : goal.trace_edge-requires-clause-pins
trace_edge-requires-clause-pins g c =
    let same : length c.loop-made.pins ≡ length (g.E.Engine.machine c.args.engine.now).pins = omega (arith, c.loop-made.auto.pins, c.requires.room) in
    let played : ArePlayed c.args.schedule.now (length (g.E.Engine.machine c.args.engine.now).pins) (c.loop-made.made + 1) c.play-next-in-loop-made.result c.play-next-in-loop-made.new.into
    = record { place = c.play-next-in-loop-made.ensures.place; values = c.play-next-in-loop-made.ensures.values ∙ ap (λ n. after_lines n (take c.play-next-in-loop-made.result c.args.schedule.now)) same } in
    fit_now g.E.Engine.present g.E.Engine.machine c.args.engine.now c.loop-made.engine c.loop-made.engine
    c.args.schedule.now 0 c.loop-made.made c.play-next-in-loop-made.result c.play-next-in-loop-made.new.into c.loop-made.invariant.0 c.requires.schedule played

pub returns-in_err-trace_edge-clause-text : goal.returns-in_err-trace_edge-clause-text
returns-in_err-trace_edge-clause-text g c =
    let same : length c.loop-made.pins ≡ length (g.E.Engine.machine c.args.engine.now).pins = omega (arith, c.loop-made.auto.pins, c.requires.room) in
    let played : ArePlayed c.args.schedule.now (length (g.E.Engine.machine c.args.engine.now).pins) (c.loop-made.made + 1) c.play-next-in-loop-made.result c.play-next-in-loop-made.new.into
    = record { place = c.play-next-in-loop-made.ensures.place; values = c.play-next-in-loop-made.ensures.values ∙ ap (λ n. after_lines n (take c.play-next-in-loop-made.result c.args.schedule.now)) same } in
    let next : Led g.E.Engine.present g.E.Engine.machine c.args.engine.now c.trace_edge.new.engine c.args.schedule.now 0 (c.loop-made.made + 1)
    = led_more g.E.Engine.present g.E.Engine.machine c.args.engine.now c.loop-made.engine c.trace_edge.new.engine
    c.args.schedule.now 0 c.loop-made.made c.play-next-in-loop-made.result c.play-next-in-loop-made.new.into c.loop-made.invariant.0 c.requires.schedule played
    c.trace_edge.ensures.leads c.trace_edge.ensures.machine in
    let rest = changes_rest (g.E.Engine.machine c.args.engine.now).items (g.E.Engine.machine c.args.engine.now).arrays
    (state_at (course_of (g.E.Engine.machine c.args.engine.now) c.args.schedule.now)) (c.loop-made.made + 1) c.args.count (omega arith) in
    unless_over (sym rest.1) (unless_stop rest.0 _ c.from_residual.ensures.1
    (unless_over (changes_more g.E.Engine.present g.E.Engine.machine c.args.engine.now c.loop-made.engine c.trace_edge.new.engine
    c.args.schedule.now c.loop-made.made c.requires.first c.loop-made.invariant.0 next)
    (unless_then c.loop-made.invariant.2 c.in_err-trace_edge.ensures.text)))

pub loop-made-preserved : goal.loop-made-preserved
loop-made-preserved g c =
    let same : length c.loop-made.pins ≡ length (g.E.Engine.machine c.args.engine.now).pins = omega (arith, c.loop-made.auto.pins, c.requires.room) in
    let played : ArePlayed c.args.schedule.now (length (g.E.Engine.machine c.args.engine.now).pins) (c.loop-made.made + 1) c.play-next-in-loop-made.result c.play-next-in-loop-made.new.into
    = record { place = c.play-next-in-loop-made.ensures.place; values = c.play-next-in-loop-made.ensures.values ∙ ap (λ n. after_lines n (take c.play-next-in-loop-made.result c.args.schedule.now)) same } in
    let next : Led g.E.Engine.present g.E.Engine.machine c.args.engine.now c.trace_edge.new.engine c.args.schedule.now 0 (c.loop-made.made + 1)
    = led_more g.E.Engine.present g.E.Engine.machine c.args.engine.now c.loop-made.engine c.trace_edge.new.engine
    c.args.schedule.now 0 c.loop-made.made c.play-next-in-loop-made.result c.play-next-in-loop-made.new.into c.loop-made.invariant.0 c.requires.schedule played
    c.trace_edge.ensures.leads c.trace_edge.ensures.machine in (
      next,
      played,
      unless_over (changes_more g.E.Engine.present g.E.Engine.machine c.args.engine.now c.loop-made.engine c.trace_edge.new.engine
          c.args.schedule.now c.loop-made.made c.requires.first c.loop-made.invariant.0 next)
          (unless_then c.loop-made.invariant.2 c.in_ok-trace_edge.ensures.text),
      c.in_ok-trace_edge.ensures.row,
    )
