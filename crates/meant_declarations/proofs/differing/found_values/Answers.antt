use Rattle.std.proofs.Common.{◌+◌, ℕ, Option, List, length, ap, sym, ◌∙◌, arith}
use Rattle.std.proofs.lemmas.List.{length_push}
use Rattle.least_fixed_points.specs.Settles.{entry}
use Rattle.least_fixed_points.proofs.Entries.{entry_at, entry_past}
use Rattle.meant_declarations.specs.Walks.{found_value}
use Rattle.meant_declarations.proofs.Walks.{one_more_entry, all_entries}
use Rattle.meant_declarations.proofs.differing.found_values.Goals as goal

pub loop-number-preserved : goal.loop-number-preserved
loop-number-preserved g c = record {
  count = ap length c.in_ok-push.ensures.items ∙ length_push c.loop-number.all.items c.found_value.result ∙ ap (λ (k : ℕ). k + 1) c.loop-number.invariant.count;
  values = λ i h.
      ap (λ (table : List (Option g.row.T.Denot)). entry table i) c.in_ok-push.ensures.items
      ∙ one_more_entry (λ (k : ℕ). found_value (entry c.args.values.now) (entry c.args.found.now k)) c.loop-number.all.items c.found_value.result c.loop-number.number-index c.loop-number.invariant.count c.loop-number.invariant.values
      (c.found_value.ensures ∙ ap (found_value (entry c.args.values.now)) (sym (entry_at c.args.found.now c.loop-number.number-index _ c.loop-number-test.true))) i h;
}

pub returns : goal.returns
returns g c =
    all_entries (λ (k : ℕ). found_value (entry c.args.values.now) (entry c.args.found.now k)) c.loop-number.all.items c.loop-number.number-index c.loop-number.invariant.count c.loop-number.invariant.values
    (λ i h. ap (found_value (entry c.args.values.now)) (entry_past c.args.found.now i (omega (arith, h, c.loop-number-test.false))))
