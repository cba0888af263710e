use Rattle.lisa_meaning.proofs.Showing.{items_show_all}
use Rattle.lisa_meaning.proofs.laws.items_show_all.Goals as goal

pub returns : goal.returns
returns c d = items_show_all d
