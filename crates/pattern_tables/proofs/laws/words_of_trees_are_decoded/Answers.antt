use Rattle.pattern_tables.proofs.Treed.{decoded_word}
use Rattle.pattern_tables.proofs.laws.words_of_trees_are_decoded.Goals as goal

pub returns : goal.returns
returns c = decoded_word
