use Rattle.std.proofs.Common.{ap, nat_eq, sym, ◌∙◌}
use Rattle.std.proofs.lemmas.List.Filters.{dedup_is}
use Rattle.std.proofs.lemmas.List.Sorted.{list_any-IsPermutation}
use Rattle.std.proofs.lemmas.Map.Keys.{IsStrictlyIncreasing-dedup}
use Rattle.graph_paths.specs.Paths.{is_in}
use Rattle.text_counts.proofs.Order.{dedup_keeps}
use Rattle.text_counts.proofs.gathering.in_order.Goals as goal

pub returns-clause-rising : goal.returns-clause-rising
returns-clause-rising c =
    let sorted = c.sort_unstable.new.self.items in
    rw (dedup_is nat_eq sorted _ c.dedup.ensures.filtered) (IsStrictlyIncreasing-dedup sorted c.sort_unstable.ensures.sorted)

pub returns-clause-same : goal.returns-clause-same
returns-clause-same c = λ a.
    let sorted = c.sort_unstable.new.self.items in
    ap (is_in a) (dedup_is nat_eq sorted _ c.dedup.ensures.filtered)
    ∙ dedup_keeps sorted a
    ∙ sym (list_any-IsPermutation (nat_eq a) c.args.numbers.items sorted c.sort_unstable.ensures.permutation)
