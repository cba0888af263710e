use Rattle.std.proofs.Common.{◌+◌, ℕ, List, Option, None, length, get_or, ap, ◌∙◌, arith}
use Rattle.std.proofs.lemmas.List.{length_push}
use Rattle.lisa_tree.specs.Paths.{entry_node}
use Rattle.least_fixed_points.specs.Settles.{entry}
use Rattle.description_types.specs.declared.values.TypeOf.{TypeOf}
use Rattle.description_types.specs.Kinds.{unrefused}
use Rattle.description_types.proofs.EachEntry.{one_more, entry_get}
use Rattle.description_types.proofs.kinds.declared_types.Goals as goal

pub loop-entry-preserved : goal.loop-entry-preserved
loop-entry-preserved g c = record {
  len = ap length c.in_ok-push.ensures.items ∙ length_push c.loop-entry.declared.items c.unrefused.result ∙ ap (λ (k : ℕ). k + 1) c.loop-entry.invariant.len;
  each = λ i h.
      ap (λ (xs : List (Option TypeOf)). get_or xs i None) c.in_ok-push.ensures.items
      ∙ one_more None (λ (k : ℕ). unrefused (entry c.args.types.now (entry_node (g.N.Names.tree c.args.names.now) k))) c.loop-entry.declared.items c.unrefused.result c.loop-entry.entry c.loop-entry.invariant.len c.loop-entry.invariant.each
      (c.unrefused.ensures ∙ ap unrefused c.known_entry.ensures) i h;
}

pub returns-clause-exact : goal.returns-clause-exact
returns-clause-exact g c = λ i h. entry_get c.loop-entry.declared.items i ∙ c.loop-entry.invariant.each i (omega (arith, h, c.loop-entry-test.false, c.loop-entry.auto.entry-end, c.entry_count-entry-end.ensures))
