use Rattle.lowered_edges.proofs.Formed.{program_formed}
use Rattle.lowered_edges.proofs.laws.programs_are_formed.Goals as goal

pub returns : goal.returns
returns c d types declared lowered = program_formed d types declared lowered (c.shown_is_declared.ensures d declared)
