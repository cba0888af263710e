use Rattle.std.proofs.Common.{◌<◌, length, get_or, arith, ◌∙◌}
use Rattle.std.proofs.lemmas.List.{get_or_default}
use Rattle.lisa_board.specs.declared.parts.Timer.{Timer}
use Rattle.lisa_board.specs.Feeding.{at_zero}
use Rattle.lisa_board.proofs.Counters.{one_more, all_looked}
use Rattle.lisa_board.proofs.timers.tick_all.Goals as goal

pub loop-place-preserved : goal.loop-place-preserved
loop-place-preserved g c = λ rows e.
    let timers = c.args.timers.now in
    let counters = c.loop-place.counters in
    let place = c.loop-place.place in
    let none : Timer = record { load = 0; pin = 0 } in
    let room : place < length counters = omega (arith, c.loop-place.auto.counters, c.requires.room, c.loop-place-test.true) in
    one_more timers rows (g.E.Engine.present c.args.engine.now).items place (get_or timers place none) (get_or counters place at_zero) c.tick.result c.value-load.result counters
    c.loop-place-test.true (get_or_default timers place none (get_or timers place none) c.loop-place-test.true) (c.loop-place.invariant rows e)
    (get_or_default counters place at_zero (get_or counters place at_zero) room) c.value-load.ensures c.tick.ensures

pub returns : goal.returns
returns g c = λ rows e. c.loop-place.invariant rows e ∙ all_looked c.args.timers.now rows (g.E.Engine.present c.args.engine.now).items c.loop-place.place (omega arith)
