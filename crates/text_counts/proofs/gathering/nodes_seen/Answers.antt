use Rattle.std.proofs.Common.{◌≡◌, ◌∙◌, ℕ, true, false, arith, ap}
use Rattle.std.specs.Global.{Vec}
use Rattle.graph_paths.specs.Paths.{is_in, saw}
use Rattle.graph_paths.proofs.Seen.{saw_at, in-push}
use Rattle.text_counts.proofs.Rows.{one_seen, not_seen, all_seen}
use Rattle.text_counts.proofs.gathering.nodes_seen.Goals as goal
use Rattle.text_counts.proofs.gathering.nodes_seen.Goals.{then-seen-node+in_ok-push, else-seen-node}

pub loop-node-preserved : goal.loop-node-preserved
loop-node-preserved c = λ b. elim c.if-seen-node.branch [
  | then-seen-node+in_ok-push w ↦ (let on : saw c.args.seen.now c.loop-node.node ≡ true = saw_at c.args.seen.now c.loop-node.node false c.loop-node-test.true ∙ w.if-seen-node.true in
      ap (λ (v : Vec ℕ). is_in b v.items) w.nodes-is
      ∙ ap (is_in b) w.in_ok-push.ensures.items
      ∙ in-push b c.loop-node.nodes.items c.loop-node.node
      ∙ one_seen c.args.seen.now c.loop-node.nodes.items c.loop-node.node b on (c.loop-node.invariant b))
  | else-seen-node w ↦ (let off : saw c.args.seen.now c.loop-node.node ≡ false = saw_at c.args.seen.now c.loop-node.node false c.loop-node-test.true ∙ w.if-seen-node.false in
      ap (λ (v : Vec ℕ). is_in b v.items) w.nodes-is
      ∙ not_seen c.args.seen.now c.loop-node.nodes.items c.loop-node.node b off (c.loop-node.invariant b))
]

pub returns : goal.returns
returns c = λ b. c.loop-node.invariant b ∙ all_seen c.args.seen.now c.loop-node.node b (omega arith)
