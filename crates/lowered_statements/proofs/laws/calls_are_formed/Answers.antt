use Rattle.lowered_statements.proofs.SceneForms.{all_form}
use Rattle.lowered_statements.proofs.laws.calls_are_formed.Goals as goal

pub returns : goal.returns
returns g c x p forms levels s = all_form (g.L.Lowers.scenes x) (g.L.Ruled.rules x) p (g.L.Ruled.lasts x) forms levels s
