use Rattle.std.proofs.Common.{◌<◌, ◌≤◌, length, arith}
use Rattle.description_graph.proofs.Steps.{first_some, first_later, first_none, first_found}
use Rattle.description_graph.proofs.circles.first_circular_among.Goals as goal

pub returns-then-node-operation_count : goal.returns-then-node-operation_count
returns-then-node-operation_count g c =
    let d = g.N.Names.tree c.args.names.now in
    let h : c.in-Some.node < length d.operations = (let e = c.operation_count.ensures in let t = c.if-node-operation_count.true in omega arith) in
    first_some d c.args.next.now c.requires c.in-Some.node h (first_found c.args.next.now _ _ c.in-Some.is c.in_ok-node.ensures)

pub returns-else-node-operation_count : goal.returns-else-node-operation_count
returns-else-node-operation_count g c =
    let d = g.N.Names.tree c.args.names.now in
    let h : length d.operations ≤ c.in-Some.node = (let e = c.operation_count.ensures in let t = c.if-node-operation_count.false in omega arith) in
    first_later d c.args.next.now c.requires c.in-Some.node h (first_found c.args.next.now _ _ c.in-Some.is c.in_ok-node.ensures)

pub returns-in-None : goal.returns-in-None
returns-in-None g c =
    let d = g.N.Names.tree c.args.names.now in
    first_none d c.args.next.now c.requires (first_found c.args.next.now _ _ c.in-None.is c.in_ok-node.ensures)
