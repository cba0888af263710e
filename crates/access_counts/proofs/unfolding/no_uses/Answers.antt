use Rattle.std.proofs.Common.{arith}
use Rattle.access_counts.proofs.unfolding.no_uses.Goals as goal

pub returns-clause-nothing : goal.returns-clause-nothing
returns-clause-nothing g c = λ p.
    let a = c.in_ok-reads.ensures.nothing p.read in
    let b = c.in_ok-writes.ensures.nothing p.write in
    let e = c.in_ok-values.ensures.nothing p.value in
    let f = c.in_ok-places.ensures.nothing p.place in
    let h = c.in_ok-runs.ensures.nothing p.run in
    omega (arith, a, b, e, f, h)
