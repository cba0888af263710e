use Rattle.std.proofs.Common.{◌≡◌, ◌⊎◌, ◌∙◌, IfOk, IfErr, subst, sym, ap}
use Rattle.lisa_tree.specs.declared.faults.DescFault.TheVariants as faults
use Rattle.lisa_tree.specs.Descriptions.{DescriptionTree, description_tree}
use Rattle.form_promises.specs.lisa_machine.Verdicts.{IsAccepted}
use Rattle.lisa_forms.specs.Verdicts.{HasForms, IsFirstFormFault}
use Rattle.lisa_forms.proofs.forms.Forms.make.Goals as goal

pub from_group_widths-requires : goal.from_group_widths-requires
from_group_widths-requires c = record { accepted = subst IsAccepted (sym (c.in_ok-tables.ensures ∙ ap description_tree c.description.ensures)) c.accepted.ensures.accepted }

pub returns-clause-accepted : goal.returns-clause-accepted
returns-clause-accepted c = subst (λ (t : DescriptionTree). IfOk c.from_group_widths.result (λ _. HasForms t)) (c.in_ok-tables.ensures ∙ ap description_tree c.description.ensures) c.from_group_widths.ensures.accepted

pub returns-clause-fault : goal.returns-clause-fault
returns-clause-fault c = subst (λ (t : DescriptionTree). IfErr c.from_group_widths.result (λ f. (f ≡ faults.NoMemory) ⊎ IsFirstFormFault t f)) (c.in_ok-tables.ensures ∙ ap description_tree c.description.ensures) c.from_group_widths.ensures.fault
