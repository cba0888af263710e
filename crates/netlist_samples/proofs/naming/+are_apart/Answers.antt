use Rattle.netlist_samples.proofs.Apart.{first_not_behind, behind_apart}
use Rattle.netlist_samples.proofs.naming.+are_apart.Goals as goal

pub returns-then-has-clause-only : goal.returns-then-has-clause-only
returns-then-has-clause-only t c = λ apart.
    absurd (first_not_behind c.args.names.now c.name-item.result c.in-len1-up.len_at_least c.name-item.is apart (c.has.ensures.0 c.if-has.true))

pub returns-else-has-clause-only : goal.returns-else-has-clause-only
returns-else-has-clause-only t c = λ apart. c.are_apart.ensures.only (behind_apart c.args.names.now c.name-item.result c.in-len1-up.len_at_least c.name-item.is apart)
