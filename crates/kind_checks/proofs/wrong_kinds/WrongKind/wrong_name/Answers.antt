use Rattle.std.proofs.Common.{ap, ◌∙◌}
use Rattle.description_types.specs.Tables.{known_by}
use Rattle.kind_checks.specs.Uses.{is_wrong_number}
use Rattle.kind_checks.specs.WrongKinds.{faulty}
use Rattle.kind_checks.proofs.wrong_kinds.WrongKind.wrong_name.Goals as goal

pub returns-in-Root : goal.returns-in-Root
returns-in-Root g c = rw c.in-Root.is c.root_name.ensures

pub returns-in-Number : goal.returns-in-Number
returns-in-Number g c =
    rw c.in-Number.is
    (c.faulty-in-Number.ensures
    ∙ ap (λ b. faulty b c.in-Number.name.now)
    (c.is_wrong_number.ensures ∙ ap (is_wrong_number (known_by c.args.self.now.uses.kinds.now) (g.N.Names.tree c.args.self.now.uses.names.now)) c.meaning-meaning-in-Number.ensures))

pub returns-in-Stalls : goal.returns-in-Stalls
returns-in-Stalls g c = rw c.in-Stalls.is c.pipe_name.ensures

pub returns-in-Flushes : goal.returns-in-Flushes
returns-in-Flushes g c = rw c.in-Flushes.is c.pipe_name-in-Flushes.ensures
