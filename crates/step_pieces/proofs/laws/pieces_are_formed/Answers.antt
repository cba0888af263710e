use Rattle.step_pieces.proofs.Laid.{held_formed}
use Rattle.step_pieces.proofs.laws.pieces_are_formed.Goals as goal

pub returns : goal.returns
returns c p from a w e f lies is fits wide low = held_formed p from a w e f lies is fits wide low
