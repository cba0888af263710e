use Rattle.std.proofs.Common.{◌+◌, ◌&&◌, ℕ, List, Bool, false, length, get_or, ap, ◌∙◌, arith}
use Rattle.std.proofs.lemmas.List.{length_push}
use Rattle.graph_paths.specs.Paths.{saw}
use Rattle.graph_paths.proofs.Seen.{saw_get, saw_past}
use Rattle.description_types.proofs.EachEntry.{one_more, all_entries}
use Rattle.description_types.proofs.kinds.both.Goals as goal

pub loop-entry-preserved : goal.loop-entry-preserved
loop-entry-preserved c = record {
  len = ap length c.in_ok-push.ensures.items ∙ length_push c.loop-entry.marks.items c.is_in_both.result ∙ ap (λ (k : ℕ). k + 1) c.loop-entry.invariant.len;
  each = λ i h.
      ap (λ (xs : List Bool). get_or xs i false) c.in_ok-push.ensures.items
      ∙ one_more false (λ (k : ℕ). saw c.args.left.now k && saw c.args.right.now k) c.loop-entry.marks.items c.is_in_both.result c.loop-entry.entry c.loop-entry.invariant.len c.loop-entry.invariant.each c.is_in_both.ensures i h;
}

pub returns : goal.returns
returns c = λ i.
    saw_get c.loop-entry.marks.items i
    ∙ all_entries false (λ (k : ℕ). saw c.args.left.now k && saw c.args.right.now k) c.loop-entry.marks.items c.loop-entry.entry c.loop-entry.invariant.len c.loop-entry.invariant.each
    (λ k h. ap (λ (b : Bool). b && saw c.args.right.now k) (saw_past c.args.left.now k (omega (arith, h, c.loop-entry-test.false, c.loop-entry.auto.entry-end)))) i
