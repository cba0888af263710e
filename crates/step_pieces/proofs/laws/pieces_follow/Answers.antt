use Rattle.step_pieces.proofs.Rested.{ran_append}
use Rattle.step_pieces.proofs.laws.pieces_follow.Goals as goal

pub returns : goal.returns
returns c p before pins now a b = ran_append p before pins now a.moves b.moves
