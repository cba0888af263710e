use Rattle.std.proofs.Common.{arith}
use Rattle.description_graph.proofs.Numbered.{entry_owner}
use Rattle.description_graph.proofs.rows.add_reference.Goals as goal

pub add_edge-requires : goal.add_edge-requires
add_edge-requires g c =
    let d = g.N.Names.tree c.args.names.now in
    let below = entry_owner d c.args.entry c.requires.entry in
    omega (arith, below, c.owner_at.ensures)
