use Rattle.lowered_words.proofs.Widths.{some_words, no_words}
use Rattle.lowered_words.proofs.laws.widths_are_of_words.Goals as goal

pub returns-clause-some : goal.returns-clause-some
returns-clause-some c d w has least = some_words d w has least

pub returns-clause-none : goal.returns-clause-none
returns-clause-none c d w none is = no_words d w none is
