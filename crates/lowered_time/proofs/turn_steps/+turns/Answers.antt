use Rattle.std.proofs.Common.{◌-◌, arith}
use Rattle.lowered_time.proofs.Putting.{on_ok, turns_more}
use Rattle.lowered_time.proofs.turn_steps.+turns.Goals as goal

pub returns : goal.returns
returns g t c =
    on_ok c.turns.result
    (λ others.
    turns_more (g.P.Parts.core c.args.parts.now) (g.P.Parts.operations c.args.parts.now) (g.P.Parts.layout c.args.parts.now) c.args.level (c.args.level - 1) c.args.draft.now c.turn.new.draft c.turns.new.draft (omega (arith, c.if-level-eq0.false)) c.in_ok-turn.ensures others)
    c.turns.ensures
