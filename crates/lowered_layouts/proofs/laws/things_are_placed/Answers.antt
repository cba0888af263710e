use Rattle.lowered_layouts.proofs.Temps.{rows_lie}
use Rattle.lowered_layouts.proofs.Items.{are_placed}
use Rattle.lowered_layouts.proofs.laws.things_are_placed.Goals as goal

pub returns-clause-things : goal.returns-clause-things
returns-clause-things c d p declared width arranged = are_placed d declared width p arranged

pub returns-clause-rows : goal.returns-clause-rows
returns-clause-rows c d p declared width arranged row low = rows_lie d width p.temps arranged.temps row low
