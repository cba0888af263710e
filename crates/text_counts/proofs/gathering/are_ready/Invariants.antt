use Rattle.std.proofs.Common.{◌≡◌, drop}
use Rattle.std.specs.List.{list_all}
use Rattle.text_counts.specs.Gathering.{is_node_ready}
use Rattle.text_counts.proofs.gathering.are_ready.Given as goal

abbrev pub invariant-loop-node : goal.invariant-loop-node
invariant-loop-node g l =
    let ready = is_node_ready (g.N.Names.tree l.graph.names.now) l.done in
    list_all ready l.nodes ≡ list_all ready (drop l.node-index l.nodes)
