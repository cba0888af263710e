use Rattle.lisa_forms.proofs.Kept.{AreSoFar}
use Rattle.lisa_forms.proofs.ways.ways.Given as goal

abbrev pub invariant-loop-number : goal.invariant-loop-number
invariant-loop-number g l = AreSoFar (g.N.Names.tree l.names) l.number l.ways.items
