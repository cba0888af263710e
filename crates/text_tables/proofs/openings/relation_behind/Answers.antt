use Rattle.std.proofs.Common.{sym, ◌∙◌, arith}
use Rattle.text_tables.proofs.Opened.{unlike_before, alike_before}
use Rattle.text_tables.proofs.Relating.{both_end, one_goes_on}
use Rattle.text_tables.proofs.openings.relation_behind.Goals as goal

pub returns-then-not-begin_alike : goal.returns-then-not-begin_alike
returns-then-not-begin_alike c = λ ss us h.
    unlike_before c.args.first.now c.args.second.now ss us c.pieces.i (c.pieces.invariant ss us) (omega arith) (omega arith) (sym c.begin_alike.ensures ∙ c.if-not-begin_alike.true) h

pub pieces-preserved : goal.pieces-preserved
pieces-preserved c = λ ss us. alike_before c.args.first.now c.args.second.now ss us c.pieces.i (c.pieces.invariant ss us) (omega arith) (omega arith) (sym c.stay_level.ensures ∙ c.if-not-stay_level.false)

pub returns-then-first-second : goal.returns-then-first-second
returns-then-first-second c = both_end c.args.first.now c.args.second.now c.pieces.i c.pieces.invariant (omega arith) (omega arith)

pub returns-else-first-second : goal.returns-else-first-second
returns-else-first-second c = one_goes_on c.args.first.now c.args.second.now c.pieces.i c.pieces.invariant (omega arith) (λ e. omega (arith, e))
