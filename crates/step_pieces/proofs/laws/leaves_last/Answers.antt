use Rattle.step_pieces.proofs.Rested.{low_value}
use Rattle.step_pieces.proofs.laws.leaves_last.Goals as goal

pub returns : goal.returns
returns c p before pins from e a b low r = low_value p before pins from e a b low r
