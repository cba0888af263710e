use Rattle.description_tables.proofs.Rows.{row_joined}
use Rattle.description_tables.proofs.listings.add_listing.Goals as goal

pub returns-clause-added : goal.returns-clause-added
returns-clause-added c = λ o.
    row_joined c.args.rows.now.items c.args.number c.args.owner c.index_mut.result.now c.add_once.new.row o c.requires c.index_mut.ensures.value c.in_ok-add_once.ensures
