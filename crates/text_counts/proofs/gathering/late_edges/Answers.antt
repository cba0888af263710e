use Rattle.std.proofs.Common.{arith, ◌∙◌, rules}
use Rattle.text_counts.specs.Gathering.{late_row}
use Rattle.text_counts.proofs.Rows.{row_pushed, late_end}
use Rattle.text_counts.proofs.gathering.late_edges.Goals as goal

pub loop-node-preserved : goal.loop-node-preserved
loop-node-preserved c = record {
  len = search (rules, c.in_ok-push.ensures.items);
  rows = λ a. rw c.in_ok-push.ensures.items (row_pushed c.loop-node.edges.items _ (late_row c.args.base c.args.next.now) c.loop-node.node c.loop-node.invariant.len c.loop-node.invariant.rows c.in_ok-late_row.ensures a);
}

pub returns-clause-length : goal.returns-clause-length
returns-clause-length c = omega arith

pub returns-clause-rows : goal.returns-clause-rows
returns-clause-rows c = λ a. c.loop-node.invariant.rows a ∙ late_end c.args.base c.args.next.now c.loop-node.node (omega arith) a
