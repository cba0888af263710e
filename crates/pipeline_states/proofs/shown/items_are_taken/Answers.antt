use Rattle.pipeline_states.proofs.Told.{bits_taken, words_taken}
use Rattle.pipeline_states.proofs.shown.items_are_taken.Goals as goal

pub returns : goal.returns
returns c d hard has = record { bits = bits_taken d hard has; words = words_taken d hard has }
