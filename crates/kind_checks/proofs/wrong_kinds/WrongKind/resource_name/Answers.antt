use Rattle.kind_checks.proofs.wrong_kinds.WrongKind.resource_name.Goals as goal

pub returns-in-Fields : goal.returns-in-Fields
returns-in-Fields g c = rw c.in-Fields.is c.pipe_name.ensures
