use Rattle.lowered_statements.proofs.SceneRests.{all_idle}
use Rattle.lowered_statements.proofs.laws.calls_rest.Goals as goal

pub returns : goal.returns
returns g c x p before pins are levels s = all_idle (g.L.Lowers.scenes x) p before pins are levels s
