use Rattle.lowered_edges.proofs.Copying.{item_copied}
use Rattle.lowered_edges.proofs.programs.copied_item.Goals as goal

pub returns : goal.returns
returns c = item_copied c.args.item.now c.in_ok-name.name c.in_ok-name.ensures.cases
