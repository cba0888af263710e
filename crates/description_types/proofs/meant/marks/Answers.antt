use Rattle.std.proofs.Common.{◌+◌, ℕ, List, Bool, false, length, get_or, ap, ◌∙◌, arith}
use Rattle.std.proofs.lemmas.List.{length_push}
use Rattle.graph_paths.proofs.Seen.{saw_get}
use Rattle.description_types.proofs.EachEntry.{one_more}
use Rattle.description_types.proofs.meant.marks.Goals as goal

pub loop-entry-preserved : goal.loop-entry-preserved
loop-entry-preserved g c = record {
  len = ap length c.in_ok-push.ensures.items ∙ length_push c.loop-entry.marks.items c.holds.result ∙ ap (λ (k : ℕ). k + 1) c.loop-entry.invariant.len;
  each = λ i h.
      ap (λ (xs : List Bool). get_or xs i false) c.in_ok-push.ensures.items
      ∙ one_more false (g.P.Property.holds c.args.property.now) c.loop-entry.marks.items c.holds.result c.loop-entry.entry c.loop-entry.invariant.len c.loop-entry.invariant.each c.holds.ensures i h;
}

pub returns-clause-exact : goal.returns-clause-exact
returns-clause-exact g c = λ i h. saw_get c.loop-entry.marks.items i ∙ c.loop-entry.invariant.each i (omega (arith, h))
