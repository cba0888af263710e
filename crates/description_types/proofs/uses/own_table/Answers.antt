use Rattle.std.proofs.Common.{◌≡◌, ◌+◌, ℕ, List, length, get_or, ap, ◌∙◌, arith}
use Rattle.std.proofs.lemmas.List.{length_push}
use Rattle.lisa_tree.specs.Declarations.{entries}
use Rattle.description_types.specs.declared.values.Traits.{Traits}
use Rattle.description_types.specs.Uses.{no_traits, own_traits}
use Rattle.description_types.proofs.EachEntry.{one_more, all_entries, traits_past}
use Rattle.description_types.proofs.uses.own_table.Goals as goal

pub loop-entry-preserved : goal.loop-entry-preserved
loop-entry-preserved g c = record {
  len = ap length c.in_ok-push.ensures.items ∙ length_push c.loop-entry.table.items c.own_traits.result ∙ ap (λ (k : ℕ). k + 1) c.loop-entry.invariant.len;
  each = λ i h.
      ap (λ (xs : List Traits). get_or xs i no_traits) c.in_ok-push.ensures.items
      ∙ one_more no_traits (own_traits (g.N.Names.tree c.args.names.now)) c.loop-entry.table.items c.own_traits.result c.loop-entry.entry c.loop-entry.invariant.len c.loop-entry.invariant.each c.own_traits.ensures i h;
}

pub returns : goal.returns
returns g c =
    let last : c.loop-entry.entry ≡ length (entries (g.N.Names.tree c.args.names.now)) = omega (arith, c.loop-entry-test.false, c.loop-entry.auto.entry-end, c.entry_count-entry-end.ensures) in
    all_entries no_traits (own_traits (g.N.Names.tree c.args.names.now)) c.loop-entry.table.items c.loop-entry.entry c.loop-entry.invariant.len c.loop-entry.invariant.each
    (traits_past (g.N.Names.tree c.args.names.now) c.loop-entry.entry last)
