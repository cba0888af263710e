use Rattle.lowered_statements.proofs.Does.{does_all}
use Rattle.lowered_statements.proofs.laws.statements_do.Goals as goal

pub returns : goal.returns
returns g c x p before pins idle forms does all scope guard from m now typed is guards one lies h =
    does_all (g.L.Lowered.doing x) (g.L.Lowered.ways x) (g.L.Lowered.rules x) p before pins (g.L.Lowered.holds x p before pins) (g.L.Lowered.lasts x) idle forms does all scope guard from m now typed is guards one lies h
