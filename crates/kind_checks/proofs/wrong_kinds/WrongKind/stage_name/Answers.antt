use Rattle.kind_checks.proofs.wrong_kinds.WrongKind.stage_name.Goals as goal

pub returns-in-Some : goal.returns-in-Some
returns-in-Some g c = rw c.in-Some.is c.pipe_name.ensures
