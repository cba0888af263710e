use Rattle.lowered_edges.proofs.Copying.{array_copied}
use Rattle.lowered_edges.proofs.programs.copied_array.Goals as goal

pub returns : goal.returns
returns c = array_copied c.args.array.now c.in_ok-name.name c.in_ok-name.ensures.cases
