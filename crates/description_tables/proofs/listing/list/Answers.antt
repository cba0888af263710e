use Rattle.std.proofs.Common.{rules, ℕ, ◌≡◌, ◌<◌, length, arith, ap, ◌∙◌, ◌++◌, ◌∷◌, []}
use Rattle.lisa_tree.specs.Descriptions.{description_tree}
use Rattle.description_tables.proofs.Entries.{operations_step, operations_choices_step, before_step}
use Rattle.description_tables.proofs.listing.list.Goals as goal

pub loop-number-preserved : goal.loop-number-preserved
loop-number-preserved c =
    let all = c.args.operations.now in
    let i = c.loop-number.number in
    let d = description_tree c.args.globals.now.description.now in
    let x = c.index-operations-number.result in
    let v = c.loop-number.invariant in
    let h : i < length all = omega arith in
    let n : c.loop-number.entries.len ≡ length c.loop-number.entries.items = omega (arith, c.loop-number.entries.ok.0) in
    record {
      entries = operations_step d all i x c.loop-number.entries.items _ c.loop-number.choices.items h c.index-operations-number.is v.entries v.choices c.in_ok-add_operation.ensures.entries;
      choices = operations_choices_step d all i x c.loop-number.choices.items _ h c.index-operations-number.is v.choices c.in_ok-add_operation.ensures.choices;
      count = search rules;
      before = before_step all i c.loop-number.before.items _ c.loop-number.entries.items v.count v.entries (c.in_ok-push.ensures.items ∙ ap (λ (k : ℕ). c.loop-number.before.items ++ (k ∷ [])) (c.len.ensures ∙ n)) v.before;
    }
