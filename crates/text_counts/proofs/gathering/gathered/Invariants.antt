-- What was gathered so far and what the nodes that are left choose are all of it.
use Rattle.std.proofs.Common.{◌≡◌, ◌++◌, drop, map}
use Rattle.std.specs.Rc.{rc_value}
use Rattle.graph_paths.specs.Paths.{targets}
use Rattle.text_counts.specs.Gathering.{gathered}
use Rattle.text_counts.proofs.gathering.gathered.Given as goal

abbrev pub invariant-loop-node : goal.invariant-loop-node
invariant-loop-node g l =
    let d = g.N.Names.tree l.graph.names.now in
    l.all.items ++ gathered d (targets (map rc_value l.lists)) (drop l.node-index l.nodes) ≡ gathered d (targets (map rc_value l.lists)) l.nodes
