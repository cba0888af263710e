use Rattle.std.proofs.Common.{◌≡◌, ◌<◌, ◌+◌, ℕ, get_or, length, arith}
use Rattle.access_counts.specs.Ledgers.{capped}
use Rattle.access_counts.proofs.Worth.{worth_add, any_default}
use Rattle.access_counts.proofs.ledger.add.Goals as goal

pub returns-in-Some-clause-more : goal.returns-in-Some-clause-more
returns-in-Some-clause-more c = λ price.
    let xs = c.args.counts.now.items in
    let k = c.in-Some.place in
    let below : k < length xs = rw c.in-Some.is at c.requires in
    let here : c.index.result.now ≡ get_or xs k 0 = any_default xs k _ c.index.result.now below c.index.ensures in
    let is : c.saturating_add.result ≡ capped (get_or xs k 0 + c.args.times) = (let e = c.saturating_add.ensures in omega (arith, e, here)) in
    rw c.in-Some.is (worth_add price xs k c.args.times c.saturating_add.result below is)
