use Rattle.std.proofs.Common.{sym, ◌∙◌, arith}
use Rattle.lisa_words.proofs.Reduced.{masked, none_above}
use Rattle.lisa_words.proofs.bitwise.shl.Goals as goal
use Rattle.lisa_words.proofs.bitwise.shl.Goals.{then-by-from, else-by-from}

pub returns-clause-bits : goal.returns-clause-bits
returns-clause-bits c = elim c.if-by-from.branch [
  | then-by-from w ↦ w.bits-is ∙ masked _ _ _ c.args.a.at_most_64 w.mask.ensures
  | else-by-from w ↦ w.bits-is ∙ sym (none_above c.args.a.width c.args.a.bits c.args.by (omega arith))
]
