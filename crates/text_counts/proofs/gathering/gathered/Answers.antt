use Rattle.std.proofs.Common.{ℕ, List, ◌++◌, ◌+◌, map, get_or, drop, ap, arith, ◌∙◌}
use Rattle.std.specs.Rc.{rc_value}
use Rattle.graph_paths.specs.Paths.{targets}
use Rattle.text_counts.specs.Gathering.{gathered, gathered_at}
use Rattle.text_counts.proofs.Rows.{one_node, regroup}
use Rattle.text_counts.proofs.gathering.gathered.Goals as goal

pub loop-node-preserved : goal.loop-node-preserved
loop-node-preserved g c =
    let d = g.N.Names.tree c.args.graph.now.names.now in
    let means = targets (map rc_value c.args.lists.now) in
    let nodes = c.args.nodes.now in
    let i = c.loop-node.node-index in
    regroup c.loop-node.all.items (gathered_at d means (get_or nodes i 0)) _ (gathered d means (drop (i + 1) nodes)) (gathered d means nodes) (gathered d means (drop i nodes))
    (c.in_ok-extend_from_slice.ensures.items ∙ ap (λ (xs : List ℕ). c.loop-node.all.items ++ xs) c.chosen_at.ensures) c.loop-node.invariant (one_node d means nodes i (omega arith))
