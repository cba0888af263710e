use Rattle.std.proofs.Common.{◌≡◌, ℕ, [], arith, rules, subst}
use Rattle.stage_checks.specs.Spreading.{Spreading, AreSourced}
use Rattle.stage_checks.proofs.Ranks.{begins, none_sourced, ends}
use Rattle.stage_checks.proofs.spreading.greatest.Goals as goal

pub loop-rank-init : goal.loop-rank-init
loop-rank-init c = record {
  range = omega arith;
  spreading = begins _ _ _ _ (c.in_ok-table.ensures.items_if_clones_equal (λ y e. search rules));
  sourced = none_sourced c.args.next.now _ _;
}

pub returns-clause-greatest : goal.returns-clause-greatest
returns-clause-greatest c =
    let z : c.loop-rank.rank ≡ 0 = omega arith in
    ends c.args.next.now c.args.sources.now c.loop-rank.table.items
    (subst (λ (k : ℕ). Spreading c.args.next.now c.args.sources.now k c.loop-rank.table.items []) z c.loop-rank.invariant.spreading)
    (subst (λ (k : ℕ). AreSourced c.args.sources.now k c.loop-rank.table.items) z c.loop-rank.invariant.sourced)
