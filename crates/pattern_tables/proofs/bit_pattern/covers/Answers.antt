use Rattle.pattern_tables.proofs.Clashing.{covers_test, covers_fails}
use Rattle.pattern_tables.proofs.bit_pattern.covers.Goals as goal

pub returns-then-first-second-clause-covers : goal.returns-then-first-second-clause-covers
returns-then-first-second-clause-covers c width fs gs f g = covers_test width fs gs _ _ f g c.if-first-second.true

pub returns-else-first-second-clause-covers : goal.returns-else-first-second-clause-covers
returns-else-first-second-clause-covers c width fs gs f g = covers_fails width fs gs _ _ f g c.if-first-second.false
