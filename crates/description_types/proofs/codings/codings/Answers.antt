use Rattle.std.proofs.Common.{◌≡◌, ◌+◌, ℕ, List, length, get_or, ap, ◌∙◌, arith}
use Rattle.std.specs.Prelude.{option_copied}
use Rattle.std.proofs.lemmas.List.{length_push}
use Rattle.lisa_tree.specs.Descriptions.{SectionTree}
use Rattle.lisa_tree.specs.Operations.{sections_at}
use Rattle.lisa_tree.specs.Declarations.{entries, owner_at}
use Rattle.description_types.specs.declared.values.CodedName.{CodedName}
use Rattle.description_types.specs.Codings.{no_coding, name_coding, coding_at}
use Rattle.description_types.proofs.EachEntry.{one_more, all_entries, coding_past}
use Rattle.description_types.proofs.codings.codings.Goals as goal

pub loop-entry-preserved : goal.loop-entry-preserved
loop-entry-preserved g c = record {
  len = ap length c.in_ok-push.ensures.items ∙ length_push c.loop-entry.table.items c.name_coding.result ∙ ap (λ (k : ℕ). k + 1) c.loop-entry.invariant.len;
  coded = c.in_ok-coded-2.ensures;
  each = λ i h.
      ap (λ (xs : List CodedName). get_or xs i no_coding) c.in_ok-push.ensures.items
      ∙ one_more no_coding (coding_at (g.N.Names.tree c.args.names.now)) c.loop-entry.table.items c.name_coding.result c.loop-entry.entry c.loop-entry.invariant.len c.loop-entry.invariant.each
      (c.name_coding.ensures
      ∙ ap (λ (s : List SectionTree). name_coding s (option_copied c.name_at.result)) (c.in_ok-coded-2.ensures ∙ ap (sections_at (g.N.Names.tree c.args.names.now)) c.owner_at-operation.ensures)
      ∙ ap (name_coding (sections_at (g.N.Names.tree c.args.names.now) (owner_at (g.N.Names.tree c.args.names.now) c.loop-entry.entry))) c.name_at.ensures)
      i h;
}

pub returns : goal.returns
returns g c =
    let last : c.loop-entry.entry ≡ length (entries (g.N.Names.tree c.args.names.now)) = omega (arith, c.loop-entry-test.false, c.loop-entry.auto.entry-end, c.entry_count-entry-end.ensures) in
    all_entries no_coding (coding_at (g.N.Names.tree c.args.names.now)) c.loop-entry.table.items c.loop-entry.entry c.loop-entry.invariant.len c.loop-entry.invariant.each
    (coding_past (g.N.Names.tree c.args.names.now) c.loop-entry.entry last)
