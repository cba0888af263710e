use Rattle.std.proofs.Common.{◌≡◌, ◌<◌, ◌∙◌, List, [], arith, length, get_or, ap, sym, subst}
use Rattle.std.specs.Prelude.{All, IfSome}
use Rattle.std.proofs.lemmas.Grind.{get_or_default_zero}
use Rattle.std.proofs.lemmas.List.{length-map}
use Rattle.lisa_engine.specs.Shape.{IsWidth}
use Rattle.lisa_board.specs.declared.parts.Timer.{Timer}
use Rattle.lisa_board.specs.Boards.{Devices, IsConsoleFor}
use Rattle.lisa_board.specs.Kept.{Seen, seen_by}
use Rattle.lisa_board.proofs.Feeds.{timer_pins, byte_pin, valid_pin}
use Rattle.lisa_board.proofs.Running.{stands_first, stands_more, led_within, looked_more, fed, fed_fit, saw, showed, stands_last, shown_last}
use Rattle.lisa_board.proofs.run.make_edges.Goals as goal

pub first_port-port-requires : goal.first_port-port-requires
first_port-port-requires g c =
    let m = g.E.Engine.machine c.args.engine.now in
    subst (λ (b : Devices). IfSome b.console (IsConsoleFor m.items m.pins)) (sym c.board.view_is) c.requires.board.console

pub loop-made-init : goal.loop-made-init
loop-made-init g c =
    stands_first g.E.Engine.present g.E.Engine.machine c.args.engine.now c.args.board.now c.args.input.now c.args.counters.now c.first_port-port.result c.args.printed.now.items
    c.requires.first c.requires.counters
    (c.first_port-port.ensures ∙ ap (λ (b : Devices). seen_by b.console c.args.input.now [] (g.E.Engine.present c.args.engine.now).items) c.board.view_is)
    c.requires.nothing

pub tick_all-requires-clause-loads : goal.tick_all-requires-clause-loads
tick_all-requires-clause-loads g c =
    let timers : c.deref.result.now ≡ c.args.board.now.timers = c.deref.ensures.value ∙ ap (λ (b : Devices). b.timers) c.board.view_is in
    subst (λ (ts : List Timer). All (λ timer. timer.load < length (g.E.Engine.machine c.loop-made.engine).items) ts) (sym timers)
    (λ k d h. subst (λ m. (get_or c.args.board.now.timers k d).load < length m.items) (sym c.loop-made.invariant.kept) (c.requires.board.timers k d h).load)

pub tick_all-requires-clause-room : goal.tick_all-requires-clause-room
tick_all-requires-clause-room g c =
    let timers : c.deref.result.now ≡ c.args.board.now.timers = c.deref.ensures.value ∙ ap (λ (b : Devices). b.timers) c.board.view_is in
    ap length c.loop-made.invariant.looked ∙ length-map c.args.board.now.timers _ ∙ ap length (sym timers)

pub set_pins-requires-clause-timers : goal.set_pins-requires-clause-timers
set_pins-requires-clause-timers g c =
    timer_pins (g.E.Engine.machine c.args.engine.now).items (g.E.Engine.machine c.args.engine.now).pins c.args.board.now (length c.loop-made.pins) c.requires.board (c.loop-made.auto.pins ∙ c.requires.room)

pub set_pins-requires-clause-byte : goal.set_pins-requires-clause-byte
set_pins-requires-clause-byte g c =
    byte_pin (g.E.Engine.machine c.args.engine.now).items (g.E.Engine.machine c.args.engine.now).pins c.args.board.now.console (length c.loop-made.pins) c.requires.board.console
    (c.loop-made.auto.pins ∙ c.requires.room ∙ c.requires.board.count)

pub set_pins-requires-clause-valid : goal.set_pins-requires-clause-valid
set_pins-requires-clause-valid g c =
    valid_pin (g.E.Engine.machine c.args.engine.now).items (g.E.Engine.machine c.args.engine.now).pins c.args.board.now.console (length c.loop-made.pins) c.requires.board.console
    (c.loop-made.auto.pins ∙ c.requires.room ∙ c.requires.board.count)

pub edge-requires : goal.edge-requires
edge-requires g c =
    let first = c.args.engine.now in
    let timers : c.deref.result.now ≡ c.args.board.now.timers = c.deref.ensures.value ∙ ap (λ (b : Devices). b.timers) c.board.view_is in
    let widths : All (λ pin. IsWidth pin.width) (g.E.Engine.machine first).pins = (g.met.E.Engine.sized first).of_pins in
    let small : All (λ b. b < 256) c.args.input.now = λ k d h. omega (arith, c.type_inv.input k, get_or_default_zero c.args.input.now k d h) in
    fed_fit g.E.Engine.present g.E.Engine.machine first c.loop-made.engine c.args.board.now c.args.input.now c.loop-made.made c.loop-made.counters c.loop-made.port c.loop-made.printed.items c.loop-made.invariant
    c.set_pins.new.pins widths c.requires.board small
    (fed g.E.Engine.present g.E.Engine.machine first c.loop-made.engine c.args.board.now c.args.input.now c.loop-made.made c.loop-made.counters c.loop-made.port c.loop-made.printed.items c.loop-made.invariant
    c.deref.result.now c.tick_all.new.counters _ c.set_pins.new.pins timers (ap (λ (p : Seen). p.rest) c.port.view_is) c.tick_all.ensures c.set_pins.ensures)

pub look_again-requires : goal.look_again-requires
look_again-requires g c =
    let m = g.E.Engine.machine c.edge.new.self in
    subst (λ (b : Devices). IfSome b.console (IsConsoleFor m.items m.pins)) (sym c.board.view_is)
    (subst (λ m. IfSome c.args.board.now.console (IsConsoleFor m.items m.pins)) (sym (c.edge.ensures.machine ∙ c.loop-made.invariant.kept)) c.requires.board.console)

pub loop-made-preserved : goal.loop-made-preserved
loop-made-preserved g c =
    let first = c.args.engine.now in
    let board = c.args.board.now in
    let input = c.args.input.now in
    let timers : c.deref.result.now ≡ board.timers = c.deref.ensures.value ∙ ap (λ (b : Devices). b.timers) c.board.view_is in
    let widths : All (λ pin. IsWidth pin.width) (g.E.Engine.machine first).pins = (g.met.E.Engine.sized first).of_pins in
    let small : All (λ b. b < 256) input = λ k d h. omega (arith, c.type_inv.input k, get_or_default_zero c.args.input.now k d h) in
    stands_more g.E.Engine.present g.E.Engine.machine first c.loop-made.engine board input c.loop-made.made c.loop-made.counters c.loop-made.port c.loop-made.printed.items c.loop-made.invariant
    c.edge.new.self c.tick_all.new.counters c.set_pins.new.pins c.in_ok-port.port c.look_again.new.printed.items widths c.requires.board small
    (looked_more g.E.Engine.present g.E.Engine.machine first c.loop-made.engine board input c.loop-made.made c.loop-made.counters c.loop-made.port c.loop-made.printed.items c.loop-made.invariant c.deref.result.now c.tick_all.new.counters timers c.tick_all.ensures)
    (fed g.E.Engine.present g.E.Engine.machine first c.loop-made.engine board input c.loop-made.made c.loop-made.counters c.loop-made.port c.loop-made.printed.items c.loop-made.invariant
    c.deref.result.now c.tick_all.new.counters _ c.set_pins.new.pins timers (ap (λ (p : Seen). p.rest) c.port.view_is) c.tick_all.ensures c.set_pins.ensures)
    c.edge.ensures.leads c.edge.ensures.machine
    (saw g.E.Engine.present g.E.Engine.machine first c.loop-made.engine board input c.loop-made.made c.loop-made.counters c.loop-made.port c.loop-made.printed.items c.loop-made.invariant
    c.board.inside.console c.in_ok-port.port (g.E.Engine.present c.edge.new.self).items (ap (λ (b : Devices). b.console) c.board.view_is) c.in_ok-port.ensures.port)
    (showed g.E.Engine.present g.E.Engine.machine first c.loop-made.engine board input c.loop-made.made c.loop-made.counters c.loop-made.port c.loop-made.printed.items c.loop-made.invariant
    c.board.inside.console c.look_again.new.printed.items (g.E.Engine.present c.edge.new.self).items (ap (λ (b : Devices). b.console) c.board.view_is) c.in_ok-port.ensures.printed)

pub returns-in_err-port-clause-within : goal.returns-in_err-port-clause-within
returns-in_err-port-clause-within g c =
    let first = c.args.engine.now in
    let board = c.args.board.now in
    let input = c.args.input.now in
    let timers : c.deref.result.now ≡ board.timers = c.deref.ensures.value ∙ ap (λ (b : Devices). b.timers) c.board.view_is in
    let widths : All (λ pin. IsWidth pin.width) (g.E.Engine.machine first).pins = (g.met.E.Engine.sized first).of_pins in
    let small : All (λ b. b < 256) input = λ k d h. omega (arith, c.type_inv.input k, get_or_default_zero c.args.input.now k d h) in
    led_within g.E.Engine.present g.E.Engine.machine first c.loop-made.engine board input c.loop-made.made c.loop-made.counters c.loop-made.port c.loop-made.printed.items c.loop-made.invariant
    c.edge.new.self c.set_pins.new.pins widths c.requires.board small
    (fed g.E.Engine.present g.E.Engine.machine first c.loop-made.engine board input c.loop-made.made c.loop-made.counters c.loop-made.port c.loop-made.printed.items c.loop-made.invariant
    c.deref.result.now c.tick_all.new.counters _ c.set_pins.new.pins timers (ap (λ (p : Seen). p.rest) c.port.view_is) c.tick_all.ensures c.set_pins.ensures)
    c.edge.ensures.leads c.edge.ensures.machine c.args.count (omega arith)

pub returns-clause-within : goal.returns-clause-within
returns-clause-within g c = (c.loop-made.made, omega arith, c.loop-made.invariant.led)

pub returns-clause-stands : goal.returns-clause-stands
returns-clause-stands g c =
    let all : c.loop-made.made ≡ c.args.count = omega arith in
    stands_last g.E.Engine.present g.E.Engine.machine c.args.engine.now c.loop-made.engine c.args.board.now c.args.input.now c.loop-made.made c.loop-made.counters c.loop-made.port c.loop-made.printed.items c.loop-made.invariant
    c.args.count all

pub returns-clause-printed : goal.returns-clause-printed
returns-clause-printed g c =
    let all : c.loop-made.made ≡ c.args.count = omega arith in
    shown_last g.E.Engine.present g.E.Engine.machine c.args.engine.now c.loop-made.engine c.args.board.now c.args.input.now c.loop-made.made c.loop-made.counters c.loop-made.port c.loop-made.printed.items c.loop-made.invariant
    c.args.count all
