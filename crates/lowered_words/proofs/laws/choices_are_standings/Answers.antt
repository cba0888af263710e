use Rattle.lowered_words.proofs.Choices.{standing_is, part_is}
use Rattle.lowered_words.proofs.laws.choices_are_standings.Goals as goal

pub returns-clause-standings : goal.returns-clause-standings
returns-clause-standings c d f k = standing_is d f k

pub returns-clause-parts : goal.returns-clause-parts
returns-clause-parts c d f k = part_is d f k
