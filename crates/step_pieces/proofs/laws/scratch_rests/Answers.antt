use Rattle.step_pieces.proofs.Rested.{scratch_rests}
use Rattle.step_pieces.proofs.laws.scratch_rests.Goals as goal

pub returns : goal.returns
returns c p before pins from moves now all = scratch_rests p before pins from moves now all
