use Rattle.std.proofs.Common.{◌∙◌, arith}
use Rattle.graph_paths.proofs.Edges.{all_rows}
use Rattle.graph_paths.proofs.reversing.reversed.Goals as goal

pub returns-clause-exact : goal.returns-clause-exact
returns-clause-exact c = λ x y. c.loop-node.invariant.so_far x y ∙ all_rows c.args.next.now x y c.loop-node.node (omega arith)
