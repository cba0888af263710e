use Rattle.std.proofs.Common.{◌+◌, ℕ, Bool, List, length, ap, sym, ◌∙◌, arith}
use Rattle.std.specs.Option.{is_some}
use Rattle.std.proofs.lemmas.List.{length_push}
use Rattle.graph_paths.specs.Paths.{saw}
use Rattle.least_fixed_points.specs.Settles.{entry}
use Rattle.least_fixed_points.proofs.Entries.{entry_at, entry_past}
use Rattle.meant_declarations.proofs.Walks.{one_more_mark, all_marks}
use Rattle.meant_declarations.proofs.walking.are_some.Goals as goal

pub loop-entry-preserved : goal.loop-entry-preserved
loop-entry-preserved g c = record {
  count = ap length c.in_ok-push.ensures.items ∙ length_push c.loop-entry.marked.items c.is_some.result ∙ ap (λ (k : ℕ). k + 1) c.loop-entry.invariant.count;
  marked = λ i h.
      ap (λ (marks : List Bool). saw marks i) c.in_ok-push.ensures.items
      ∙ one_more_mark (λ (k : ℕ). is_some (entry c.args.table.now k)) c.loop-entry.marked.items c.is_some.result c.loop-entry.entry-index c.loop-entry.invariant.count c.loop-entry.invariant.marked
      (c.is_some.ensures ∙ ap is_some (sym (entry_at c.args.table.now c.loop-entry.entry-index c.entry-item.result c.loop-entry-test.true ∙ sym c.entry-item.is))) i h;
}

pub returns-clause-marked : goal.returns-clause-marked
returns-clause-marked g c =
    all_marks (λ (k : ℕ). is_some (entry c.args.table.now k)) c.loop-entry.marked.items c.loop-entry.entry-index c.loop-entry.invariant.count c.loop-entry.invariant.marked
    (λ i h. ap is_some (entry_past c.args.table.now i (omega (arith, h, c.loop-entry-test.false))))
