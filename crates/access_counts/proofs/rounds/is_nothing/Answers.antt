use Rattle.std.proofs.Common.{◌≡◌, ◌∙◌, ℕ, get_or, sym, arith}
use Rattle.access_counts.proofs.Worth.{skipped, from_past}
use Rattle.access_counts.proofs.rounds.is_nothing.Goals as goal

pub loop-count-preserved : goal.loop-count-preserved
loop-count-preserved c = λ price.
    let none : get_or c.args.counts.now c.loop-count.count-index 0 ≡ 0 = omega arith in
    skipped price c.args.counts.now c.loop-count.count-index (omega arith) none ∙ c.loop-count.invariant price

pub returns : goal.returns
returns c = λ _. λ price. sym (c.loop-count.invariant price) ∙ from_past price c.loop-count.count-index c.loop-count.count-index c.args.counts.now (omega arith)
