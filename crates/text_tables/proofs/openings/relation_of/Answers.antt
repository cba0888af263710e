use Rattle.text_tables.proofs.Relating.{past_alike}
use Rattle.text_tables.proofs.openings.relation_of.Goals as goal

pub returns : goal.returns
returns c = past_alike c.args.first.now c.args.second.now c.alike-same.result c.relation_behind.result c.alike-same.ensures.same c.relation_behind.ensures
