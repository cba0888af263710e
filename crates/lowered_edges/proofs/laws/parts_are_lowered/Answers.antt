use Rattle.lowered_edges.proofs.Lowered.{parts_lowered}
use Rattle.lowered_edges.proofs.Forming.{parts_formed}
use Rattle.lowered_edges.proofs.laws.parts_are_lowered.Goals as goal

pub returns-clause-lowered : goal.returns-clause-lowered
returns-clause-lowered c d types declared width p lowered = parts_lowered d types declared width p lowered

pub returns-clause-formed : goal.returns-clause-formed
returns-clause-formed c d types declared width p lowered = parts_formed d types declared width p lowered
