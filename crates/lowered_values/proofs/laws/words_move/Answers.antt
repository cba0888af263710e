use Rattle.lowered_values.proofs.Computing.{moved_value}
use Rattle.lowered_values.proofs.laws.words_move.Goals as goal

pub returns : goal.returns
returns c p before pins now kind w x by some at low = moved_value p before pins now kind w x by some at low
