use Rattle.lisa_meaning.proofs.Words.{decoded_once}
use Rattle.lisa_meaning.proofs.laws.words_are_decoded_once.Goals as goal

pub returns : goal.returns
returns c = decoded_once
