use Rattle.std.proofs.Common.{arith, rules}
use Rattle.least_fixed_points.specs.Settles.{entry}
use Rattle.lisa_tree.specs.Operations.{sections_at, activation_in}
use Rattle.text_counts.specs.Activations.{activation_nodes}
use Rattle.text_counts.proofs.Entries.{one_entry}
use Rattle.text_counts.proofs.tables.activation_counts.Goals as goal

pub loop-operation-preserved : goal.loop-operation-preserved
loop-operation-preserved g c =
    let d = g.N.Names.tree c.args.names.now in
    record {
      count = search (rules, c.in_ok-push.ensures.items);
      told = λ o h. rw c.in_ok-push.ensures.items
          (one_entry c.loop-operation.table.items c.activation_nodes.result (λ p. activation_nodes (entry c.args.expressions.now) d p (activation_in (sections_at d p))) c.loop-operation.operation
          c.loop-operation.invariant.count c.loop-operation.invariant.told c.activation_nodes.ensures o h);
    }

pub returns : goal.returns
returns g c = λ o h. c.loop-operation.invariant.told o (omega (arith, h, c.operation_count-operation-end.ensures))
