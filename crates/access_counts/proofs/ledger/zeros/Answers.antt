use Rattle.std.proofs.Common.{◌∙◌, ap, length}
use Rattle.std.proofs.Math.ListN.{length-replicate}
use Rattle.access_counts.specs.Ledgers.{worth}
use Rattle.access_counts.proofs.Worth.{from_zeros}
use Rattle.access_counts.proofs.ledger.zeros.Goals as goal

pub returns-clause-length : goal.returns-clause-length
returns-clause-length c = ap length (c.in_ok-counts.ensures.items_if_clones_equal (λ y e. e)) ∙ length-replicate c.args.count 0

pub returns-clause-nothing : goal.returns-clause-nothing
returns-clause-nothing c = λ price. ap (worth price) (c.in_ok-counts.ensures.items_if_clones_equal (λ y e. e)) ∙ from_zeros price 0 c.args.count
