use Rattle.lowered_statements.proofs.Forms.{all_formed}
use Rattle.lowered_statements.proofs.laws.statements_are_formed.Goals as goal

pub returns : goal.returns
returns g c x p forms all scope guard from typed is guards lies =
    all_formed (g.L.Lowered.ways x) (g.L.Lowered.rules x) p (g.L.Lowered.lasts x) forms all scope guard from typed is guards lies
