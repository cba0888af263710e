use Rattle.std.proofs.Common.{◌-◌, arith}
use Rattle.lowered_time.proofs.Putting.{on_ok, ends_more}
use Rattle.lowered_time.proofs.end_steps.+set_ends.Goals as goal

pub returns : goal.returns
returns g t c =
    on_ok c.set_word.result
    (λ last.
    ends_more (g.P.Parts.core c.args.parts.now) (g.P.Parts.operations c.args.parts.now) (g.P.Parts.layout c.args.parts.now) c.args.level (c.args.level - 1) c.args.draft.now c.set_ends.new.draft c.set_bits.new.draft c.set_word.new.draft (omega (arith, c.if-level-eq0.false)) c.in_ok-set_ends.ensures c.in_ok-set_bits.ensures last)
    c.set_word.ensures
