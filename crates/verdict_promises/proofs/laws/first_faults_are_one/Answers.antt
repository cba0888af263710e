use Rattle.verdict_promises.proofs.FormFirsts.{one_form_fault}
use Rattle.verdict_promises.proofs.Firsts.{one_checked_fault, one_of_all, one_first, one_accepted, not_both}
use Rattle.verdict_promises.proofs.laws.first_faults_are_one.Goals as goal

pub returns-clause-checked : goal.returns-clause-checked
returns-clause-checked c = one_checked_fault

pub returns-clause-forms : goal.returns-clause-forms
returns-clause-forms c = one_form_fault

pub returns-clause-all : goal.returns-clause-all
returns-clause-all c = one_of_all

pub returns-clause-bytes : goal.returns-clause-bytes
returns-clause-bytes c = one_first

pub returns-clause-accepted : goal.returns-clause-accepted
returns-clause-accepted c = one_accepted

pub returns-clause-whole : goal.returns-clause-whole
returns-clause-whole c = not_both
