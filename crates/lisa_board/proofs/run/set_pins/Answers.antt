use Rattle.std.proofs.Common.{◌≡◌, ◌∙◌, ℕ, ap, replicate, rules}
use Rattle.lisa_board.specs.Boards.{Devices}
use Rattle.lisa_board.proofs.Feeds.{pins_fed}
use Rattle.lisa_board.proofs.run.set_pins.Goals as goal

pub returns : goal.returns
returns c = λ input rows looked left.
    let zeros : c.fill.new.self ≡ replicate {A = ℕ} c.args.board.now.pins 0 = search rules in
    pins_fed c.args.board.now c.board.inside.console c.deref.result.now c.args.counters.now input c.args.rest.now rows c.fill.new.self c.set_pulses.new.pins c.offer_byte.new.pins
    (c.deref.ensures.value ∙ ap (λ (b : Devices). b.timers) c.board.view_is) (ap (λ (b : Devices). b.console) c.board.view_is) looked left zeros c.set_pulses.ensures c.offer_byte.ensures
