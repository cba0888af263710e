use Rattle.lowered_layouts.proofs.Ends.{has_contents, ends_keep}
use Rattle.lowered_layouts.proofs.Forming.{ends_formed}
use Rattle.lowered_layouts.proofs.laws.ends_close.Goals as goal

pub returns-clause-closed : goal.returns-clause-closed
returns-clause-closed c d p declared width arranged from before pins m now holds controlled = (has_contents d declared width p arranged before pins m now holds from controlled, ends_keep d declared width p arranged before pins m now holds from)

pub returns-clause-formed : goal.returns-clause-formed
returns-clause-formed c d p accepted declared width arranged from = ends_formed d accepted declared width p arranged from
