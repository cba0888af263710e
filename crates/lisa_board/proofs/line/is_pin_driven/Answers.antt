use Rattle.std.proofs.Common.{ℕ, sym, ap, ◌∙◌}
use Rattle.std.specs.Prelude.{◌==◌}
use Rattle.std.specs.List.{list_any}
use Rattle.lisa_board.specs.declared.parts.Timer.{Timer}
use Rattle.lisa_board.specs.Boards.{Devices, console_pins}
use Rattle.lisa_board.proofs.BoardReads.{driven_is}
use Rattle.lisa_board.proofs.line.is_pin_driven.Goals as goal

pub returns : goal.returns
returns c =
    c.has_timer_at.ensures
    ∙ ap (list_any (λ (timer : Timer). timer.pin == c.args.pin)) (c.deref.ensures.value ∙ ap (λ (b : Devices). b.timers) c.board.view_is)
    ∙ driven_is c.args.board.now c.args.pin
    (ap (λ (b : Devices). list_any (λ (other : ℕ). other == c.args.pin) (console_pins b.console)) (sym c.board.view_is) ∙ sym c.has_console_at.ensures ∙ c.if-has_console_at.false)
