use Rattle.std.proofs.Common.{subst, None, Option}
use Rattle.lisa_tree.specs.declared.faults.DescFault.{DescFault}
use Rattle.form_patterns.specs.coding_checks.Uneven.{IsFirstGroupWidth}
use Rattle.lisa_forms.specs.Verdicts.{from_writings}
use Rattle.lisa_forms.proofs.Walking.{past, err_past, ok_past}
use Rattle.lisa_forms.proofs.checking.from_group_widths.Goals as goal

pub from_writings-requires-clause-before : goal.from_writings-requires-clause-before
from_writings-requires-clause-before g c =
    let d = g.N.Names.tree c.args.names.now in
    λ later. past (IsFirstGroupWidth d) (from_writings d) None (subst (λ (found : Option DescFault). IsFirstGroupWidth d found) c.in-None.is c.in_ok-first_group_width.ensures) later

pub returns-in-None-clause-accepted : goal.returns-in-None-clause-accepted
returns-in-None-clause-accepted g c =
    let d = g.N.Names.tree c.args.names.now in
    ok_past (IsFirstGroupWidth d) (from_writings d) c.from_writings.result (subst (λ (found : Option DescFault). IsFirstGroupWidth d found) c.in-None.is c.in_ok-first_group_width.ensures) c.from_writings.ensures.accepted

pub returns-in-None-clause-fault : goal.returns-in-None-clause-fault
returns-in-None-clause-fault g c =
    let d = g.N.Names.tree c.args.names.now in
    err_past (IsFirstGroupWidth d) (from_writings d) c.from_writings.result (subst (λ (found : Option DescFault). IsFirstGroupWidth d found) c.in-None.is c.in_ok-first_group_width.ensures) c.from_writings.ensures.fault
