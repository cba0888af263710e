use Rattle.std.proofs.Common.{arith, rules, ◌∙◌}
use Rattle.activation_trees.specs.Starting.{starts}
use Rattle.activation_trees.proofs.Rows.{one_row, all_rows}
use Rattle.activation_trees.proofs.starts.all_starts.Goals as goal

pub loop-operation-preserved : goal.loop-operation-preserved
loop-operation-preserved g c = record {
  len = search (rules, c.in_ok-push.ensures.items);
  rows = λ a h. rw c.in_ok-push.ensures.items (one_row c.loop-operation.rows.items _ (starts (g.N.Names.tree c.args.names.now)) c.loop-operation.operation c.loop-operation.invariant.len c.loop-operation.invariant.rows c.in_ok-starts.ensures a h);
}

pub returns : goal.returns
returns g c = all_rows (g.N.Names.tree c.args.names.now) c.loop-operation.rows.items c.loop-operation.operation (omega arith) c.loop-operation.invariant.len c.loop-operation.invariant.rows
