use Rattle.std.proofs.Common.{◌≡◌, ◌++◌, drop, map}
use Rattle.description_graph.specs.Graph.{owners}
use Rattle.description_graph.proofs.Owning.{one_of}
use Rattle.description_graph.proofs.owners.add_pairs.Given as goal

abbrev pub invariant-loop-pair : goal.invariant-loop-pair
invariant-loop-pair l = l.all.items ++ owners (map (one_of l.operation) (drop l._pair-index l.pairs)) ≡ l.fn.all.items ++ owners (map (one_of l.operation) l.pairs)
