use Rattle.std.proofs.Common.{None, sym, ◌∙◌}
use Rattle.form_patterns.specs.coding_checks.Written.{not_written}
use Rattle.form_promises.specs.lisa_machine.Verdicts.{at_places}
use Rattle.lisa_forms.specs.Verdicts.{from_roots}
use Rattle.lisa_forms.proofs.Walking.{past, err_past, ok_past}
use Rattle.lisa_forms.proofs.checking.from_writings.Goals as goal

pub from_roots-requires-clause-before : goal.from_roots-requires-clause-before
from_roots-requires-clause-before g c =
    let d = g.N.Names.tree c.args.names.now in
    λ later. c.requires.before (past (at_places d (not_written d)) (from_roots d) None (sym c.in-None.is ∙ c.in_ok-first_not_written.ensures) later)

pub returns-in-None-clause-accepted : goal.returns-in-None-clause-accepted
returns-in-None-clause-accepted g c =
    let d = g.N.Names.tree c.args.names.now in
    ok_past (at_places d (not_written d)) (from_roots d) c.from_roots.result (sym c.in-None.is ∙ c.in_ok-first_not_written.ensures) c.from_roots.ensures.accepted

pub returns-in-None-clause-fault : goal.returns-in-None-clause-fault
returns-in-None-clause-fault g c =
    let d = g.N.Names.tree c.args.names.now in
    err_past (at_places d (not_written d)) (from_roots d) c.from_roots.result (sym c.in-None.is ∙ c.in_ok-first_not_written.ensures) c.from_roots.ensures.fault
