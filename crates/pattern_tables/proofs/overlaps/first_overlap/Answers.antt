use Rattle.std.proofs.Common.{arith}
use Rattle.pattern_tables.proofs.Clashing.{first_overlap_is, with_first, no_overlap}
use Rattle.pattern_tables.proofs.overlaps.first_overlap.Goals as goal

pub returns-in-Some-clause-overlap : goal.returns-in-Some-clause-overlap
returns-in-Some-clause-overlap c width frames stand = first_overlap_is width frames _ _ stand c.in-Some.overlap (with_first _ _ c.forms.first c.in-Some.overlap c.forms.invariant c.in-Some.ensures.found)

pub returns-clause-overlap : goal.returns-clause-overlap
returns-clause-overlap c width frames stand = no_overlap width frames _ _ stand c.forms.first c.forms.invariant (omega arith)
