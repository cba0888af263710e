use Rattle.lisa_syntax.proofs.Placing.{ArePlaced}
use Rattle.lisa_syntax.proofs.reading.in_preorder.Given as goal

abbrev pub invariant-loop-field : goal.invariant-loop-field
invariant-loop-field l = ArePlaced l.order l.all.items l.operands l.field
