use Rattle.std.proofs.Common.{rules, ◌<◌, ◌&&◌, ℕ, List, Some, None, cond, length, nat_eq, arith, ap₂, ◌∙◌}
use Rattle.std.specs.Option.{option_or}
use Rattle.lisa_tree.specs.Same.{same_name}
use Rattle.description_tables.specs.Laws.{declares, find_in}
use Rattle.description_tables.proofs.Positions.{next_place}
use Rattle.description_tables.proofs.finding.index_names.Goals as goal

pub loop-place-preserved : goal.loop-place-preserved
loop-place-preserved c =
    let entries = c.args.entries.now in
    let i = c.loop-place.place in
    let h : i < length entries = omega arith in
    record {
      count = search rules;
      found = λ o n.
          next_place (declares o n) entries i c.index-entries-place.result _ _ h c.index-entries-place.is (c.loop-place.invariant.found o n)
          (c.in_ok-enter_declared.ensures.found o n
          ∙ ap₂ (λ (p : ℕ) (m : List ℕ). option_or (find_in c.loop-place.tables.items o n) (cond (nat_eq p o && same_name n m) (Some i) None)) c.operation.ensures c.name.ensures);
    }
