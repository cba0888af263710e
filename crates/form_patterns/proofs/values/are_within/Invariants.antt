use Rattle.form_patterns.proofs.Rowed.{AreBelow}
use Rattle.form_patterns.proofs.values.are_within.Given as goal

abbrev pub invariant-loop-field : goal.invariant-loop-field
invariant-loop-field l = AreBelow l.values l.places l.field
