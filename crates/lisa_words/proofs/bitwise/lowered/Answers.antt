use Rattle.std.proofs.Common.{sym, ◌∙◌, arith}
use Rattle.lisa_words.proofs.Reduced.{none_below}
use Rattle.lisa_words.proofs.bitwise.lowered.Goals as goal
use Rattle.lisa_words.proofs.bitwise.lowered.Goals.{then-by-from, else-by-from}

pub returns-clause-bits : goal.returns-clause-bits
returns-clause-bits c = elim c.if-by-from.branch [
  | then-by-from w ↦ w.bits-is
  | else-by-from w ↦ w.bits-is ∙ sym (none_below c.args.a.width c.args.a.bits c.args.by (omega arith) c.args.a.fits)
]
