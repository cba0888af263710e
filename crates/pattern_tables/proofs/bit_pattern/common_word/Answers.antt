use Rattle.pattern_tables.proofs.Masks.{stands_common, stands_agree}
use Rattle.pattern_tables.proofs.bit_pattern.common_word.Goals as goal

pub returns-then-first-second-clause-common : goal.returns-then-first-second-clause-common
returns-then-first-second-clause-common c width fs gs f g = stands_common width fs gs _ _ f g c.if-first-second.true

pub returns-else-first-second-clause-common : goal.returns-else-first-second-clause-common
returns-else-first-second-clause-common c width fs gs f g w has has' = c.if-first-second.false (stands_agree width fs gs _ _ f g w has has')
