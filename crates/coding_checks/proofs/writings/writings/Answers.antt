use Rattle.std.proofs.Common.{◌≡◌, ◌+◌, ℕ, List, length, get_or, ap, ap₂, ◌∙◌, arith}
use Rattle.std.specs.Prelude.{option_copied}
use Rattle.std.proofs.lemmas.List.{length_push}
use Rattle.lisa_tree.specs.Descriptions.{SectionTree}
use Rattle.lisa_tree.specs.Operations.{sections_at}
use Rattle.lisa_tree.specs.Declarations.{entries, owner_at}
use Rattle.coding_checks.specs.declared.values.Writing.{Writing}
use Rattle.coding_checks.specs.Written.{no_writing, writing_in, writing_at}
use Rattle.coding_checks.proofs.Tabled.{one_more, all_of, writing_past}
use Rattle.coding_checks.proofs.writings.writings.Goals as goal

pub loop-entry-preserved : goal.loop-entry-preserved
loop-entry-preserved g c =
    let d = g.N.Names.tree c.args.names.now in
    record {
      len = ap length c.in_ok-push.ensures.items ∙ length_push c.loop-entry.table.items c.writing_in.result ∙ ap (λ (k : ℕ). k + 1) c.loop-entry.invariant.len;
      at = c.in_ok-written-2.ensures;
      each = λ i h.
          ap (λ (xs : List Writing). get_or xs i no_writing) c.in_ok-push.ensures.items
          ∙ one_more (writing_at d) no_writing c.loop-entry.table.items c.writing_in.result c.loop-entry.entry c.loop-entry.invariant.len c.loop-entry.invariant.each
          (c.writing_in.ensures
          ∙ ap (λ (s : List SectionTree). writing_in s c.what_at.result (option_copied c.name_at.result)) (c.in_ok-written-2.ensures ∙ ap (sections_at d) c.owner_at-operation.ensures)
          ∙ ap₂ (writing_in (sections_at d (owner_at d c.loop-entry.entry))) c.what_at.ensures c.name_at.ensures)
          i h;
    }

pub returns : goal.returns
returns g c =
    let d = g.N.Names.tree c.args.names.now in
    let last : length (entries d) ≡ c.loop-entry.entry = omega arith in
    all_of (writing_at d) no_writing c.loop-entry.table.items c.loop-entry.entry c.loop-entry.invariant.len c.loop-entry.invariant.each (λ i h. writing_past d i (omega (arith, last)))
