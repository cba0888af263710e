use Rattle.std.proofs.Common.{arith, ◌∙◌}
use Rattle.pattern_tables.proofs.Halving.{whole, went_right, went_left, spent}
use Rattle.pattern_tables.proofs.Decoding.{size_of, is_pattern}
use Rattle.pattern_tables.proofs.search.place_of.Goals as goal

pub halves-init : goal.halves-init
halves-init g c = whole _ _ _ _ (c.size-high.ensures ∙ size_of c.args.table.now)

pub probe-requires : goal.probe-requires
probe-requires g c = let size = size_of c.args.table.now in omega (arith, size, c.halves.invariant.within, c.halves-test.true)

pub halves-preserved-in-Less : goal.halves-preserved-in-Less
halves-preserved-in-Less g c =
    let at = is_pattern c.args.table.now _ _ (omega (arith, c.halves.invariant.within, c.halves-test.true)) c.probe.ensures.pattern in
    rw c.probe.ensures.step (went_right _ _ _ _ _ _ _ c.args.table.now.rising c.halves.invariant c.halves-test.true (omega arith) (rw at (grind arith)))

pub halves-preserved : goal.halves-preserved
halves-preserved g c =
    let at = is_pattern c.args.table.now _ _ (omega (arith, c.halves.invariant.within, c.halves-test.true)) c.probe.ensures.pattern in
    rw c.probe.ensures.step (went_left _ _ _ _ _ _ _ c.args.table.now.rising c.halves.invariant c.halves-test.true (omega arith) (rw at (grind arith)))

pub returns-in-Equal-clause-found : goal.returns-in-Equal-clause-found
returns-in-Equal-clause-found g c =
    (omega (arith, c.halves.invariant.within, c.halves-test.true), rw (is_pattern c.args.table.now _ _ (omega (arith, c.halves.invariant.within, c.halves-test.true)) c.probe.ensures.pattern) (grind arith))

pub returns-in-Equal-clause-cost : goal.returns-in-Equal-clause-cost
returns-in-Equal-clause-cost g c = rw c.probe.ensures.step (spent _ _ _ _ _ _ c.halves.invariant c.halves-test.true)
