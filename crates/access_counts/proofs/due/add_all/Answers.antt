use Rattle.std.proofs.Common.{◌≡◌, ◌<◌, ◌+◌, ◌*◌, ◌∙◌, ℕ, List, get_or, length, drop, ap, sym, arith}
use Rattle.std.specs.Prelude.{sum_by}
use Rattle.std.proofs.lemmas.List.{length-set}
use Rattle.std.proofs.lemmas.List.Sums.{sum_by-drop_more}
use Rattle.access_counts.specs.Ledgers.{capped, worth}
use Rattle.access_counts.proofs.Worth.{worth_add, any_default, goes_on}
use Rattle.access_counts.proofs.due.add_all.Goals as goal

pub loop-operation-preserved : goal.loop-operation-preserved
loop-operation-preserved c =
    let xs = c.loop-operation.counts.items in
    let ops = c.args.operations.now in
    let i = c.loop-operation.operation-index in
    let op = get_or ops i 0 in
    let inside : i < length ops = omega arith in
    let first = c.requires i inside in
    let count = c.loop-operation.invariant.count in
    let below : op < length xs = omega (arith, first, count) in
    let here : c.index.result.now ≡ get_or xs op 0 = any_default xs op _ c.index.result.now below c.index.ensures in
    let is : c.saturating_add.result ≡ capped (get_or xs op 0 + c.args.times) = (let e = c.saturating_add.ensures in omega (arith, e, here)) in
    record {
      count = length-set xs op c.saturating_add.result ∙ count;
      rest = λ price. goes_on (worth price xs) _ _ c.args.times (price op) (sum_by price (drop (i + 1) ops)) (worth_add price xs op c.args.times c.saturating_add.result below is)
          (ap (λ (n : ℕ). capped (worth price xs + c.args.times * n)) (sym (sum_by-drop_more price ops i 0 inside)) ∙ c.loop-operation.invariant.rest price);
    }
