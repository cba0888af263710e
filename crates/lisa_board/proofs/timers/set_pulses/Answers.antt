use Rattle.std.proofs.Common.{◌<◌, length, get_or, arith, ◌∙◌, ap, map}
use Rattle.std.specs.Prelude.{fold}
use Rattle.std.proofs.lemmas.List.{take_all, get_or_default}
use Rattle.lisa_engine.specs.PinValues.{set_pin}
use Rattle.lisa_board.specs.declared.parts.Timer.{Timer}
use Rattle.lisa_board.specs.Feeding.{at_zero, pulse_of}
use Rattle.lisa_board.proofs.Counters.{one_pulse}
use Rattle.lisa_board.proofs.timers.set_pulses.Goals as goal

pub loop-place-preserved : goal.loop-place-preserved
loop-place-preserved c = λ rows e.
    let timers = c.args.timers.now in
    let counters = c.args.counters.now in
    let place = c.loop-place.place in
    let none : Timer = record { load = 0; pin = 0 } in
    let room : place < length counters = omega (arith, c.requires.room, c.loop-place-test.true) in
    one_pulse timers rows place (get_or timers place none) (get_or counters place at_zero) counters c.args.pins.now c.loop-place.pins
    c.loop-place-test.true (get_or_default timers place none (get_or timers place none) c.loop-place-test.true) e
    (get_or_default counters place at_zero (get_or counters place at_zero) room) (c.loop-place.invariant rows e)

pub returns : goal.returns
returns c = λ rows e. c.loop-place.invariant rows e ∙ ap (λ l. fold set_pin c.args.pins.now (map (pulse_of rows) l)) (take_all c.loop-place.place c.args.timers.now (omega arith))
