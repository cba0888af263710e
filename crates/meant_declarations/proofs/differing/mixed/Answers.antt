use Rattle.std.proofs.Common.{◌+◌, ℕ, Bool, Option, List, length, ap, ◌∙◌, arith}
use Rattle.std.specs.List.{list_any}
use Rattle.std.proofs.lemmas.List.{length_push}
use Rattle.graph_paths.specs.Paths.{saw, targets}
use Rattle.least_fixed_points.specs.Settles.{entry}
use Rattle.meant_declarations.specs.Walks.{are_other}
use Rattle.meant_declarations.proofs.Walks.{one_more_mark, all_marks, row_past}
use Rattle.meant_declarations.proofs.differing.mixed.Goals as goal

pub loop-node-preserved : goal.loop-node-preserved
loop-node-preserved g c = record {
  count = ap length c.in_ok-push.ensures.items ∙ length_push c.loop-node.marked.items c.is_mixed.result ∙ ap (λ (k : ℕ). k + 1) c.loop-node.invariant.count;
  marked = λ i h.
      ap (λ (marks : List Bool). saw marks i) c.in_ok-push.ensures.items
      ∙ one_more_mark (λ (i : ℕ). list_any (λ (k : ℕ). are_other g.T.PartialEq.eq (entry c.args.values.now i) (entry c.args.values.now k)) (targets c.args.next.now i)) c.loop-node.marked.items c.is_mixed.result c.loop-node.node
      c.loop-node.invariant.count c.loop-node.invariant.marked
      (c.is_mixed.ensures
      ∙ ap (λ (own : Option g.row.T.Denot). list_any (λ (k : ℕ). are_other g.T.PartialEq.eq own (entry c.args.values.now k)) c.row.result.now) c.entry_at.ensures
      ∙ ap (list_any (λ (k : ℕ). are_other g.T.PartialEq.eq (entry c.args.values.now c.loop-node.node) (entry c.args.values.now k))) c.row.ensures) i h;
}

pub returns : goal.returns
returns g c =
    all_marks (λ (i : ℕ). list_any (λ (k : ℕ). are_other g.T.PartialEq.eq (entry c.args.values.now i) (entry c.args.values.now k)) (targets c.args.next.now i)) c.loop-node.marked.items c.loop-node.node
    c.loop-node.invariant.count c.loop-node.invariant.marked
    (λ i h. ap (list_any (λ (k : ℕ). are_other g.T.PartialEq.eq (entry c.args.values.now i) (entry c.args.values.now k))) (row_past c.args.next.now i (omega (arith, h, c.loop-node-test.false))))
