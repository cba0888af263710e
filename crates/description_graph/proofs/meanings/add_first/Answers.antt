use Rattle.std.proofs.Common.{arith}
use Rattle.description_graph.proofs.Numbered.{entry_owner}
use Rattle.description_graph.proofs.meanings.add_first.Goals as goal

pub add_edge-requires : goal.add_edge-requires
add_edge-requires g c =
    let below = entry_owner (g.N.Names.tree c.args.names.now) c.args.entry c.requires.entry in
    omega (arith, below, c.owner_at.ensures)
