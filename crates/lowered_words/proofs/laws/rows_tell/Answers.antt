use Rattle.lowered_words.proofs.Telling.{row_lasts, row_tells, row_leaves}
use Rattle.lowered_words.proofs.laws.rows_tell.Goals as goal

pub returns-clause-last : goal.returns-clause-last
returns-clause-last c d base word now after same has = row_lasts d base word now after same has

pub returns-clause-tell : goal.returns-clause-tell
returns-clause-tell c d p before pins base word now has = row_tells d p before pins base word now has

pub returns-clause-leaves : goal.returns-clause-leaves
returns-clause-leaves c d wide p base lies = row_leaves d wide p base lies
