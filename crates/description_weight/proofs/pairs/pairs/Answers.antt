use Rattle.std.proofs.Common.{◌∙◌}
use Rattle.description_weight.proofs.Unfolding.{pairs_told}
use Rattle.description_weight.proofs.pairs.pairs.Goals as goal

pub returns : goal.returns
returns g c =
    let d = g.N.Names.tree c.args.names.now in
    (rw c.deref.ensures.value at (rw c.deref-2.ensures.value at c.sum_of_products.ensures))
    ∙ pairs_told d c.in_ok-ledger.ledger c.in_ok-ledger.ensures.room.reads c.in_ok-ledger.ensures.reads c.in_ok-ledger.ensures.writes
