use Rattle.std.proofs.Common.{◌≤◌, length, arith, ◌∙◌}
use Rattle.description_graph.proofs.Hits.{all_means}
use Rattle.description_graph.proofs.meanings.meanings.Goals as goal

pub returns : goal.returns
returns g c = λ x y.
    let d = g.N.Names.tree c.args.names.now in
    let h : length d.operations ≤ c.loop-operation.operation = (let e = c.operation_count-operation-end.ensures in omega arith) in
    c.loop-operation.invariant.added x y ∙ all_means d c.loop-operation.operation x y h
