use Rattle.lisa_words.proofs.Ends.{Searched}
use Rattle.lisa_words.proofs.gaps.end_of.Given as goal

abbrev pub invariant-loop-i : goal.invariant-loop-i
invariant-loop-i l = Searched l.body l.i
