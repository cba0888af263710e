use Rattle.verdict_promises.proofs.Numbers.{unread_numbers, checked_numbers, form_numbers, listed_numbers, numbers_of_bytes, unread_first}
use Rattle.verdict_promises.proofs.laws.first_faults_have_numbers.Goals as goal

pub returns-clause-unread : goal.returns-clause-unread
returns-clause-unread c = unread_numbers

pub returns-clause-checked : goal.returns-clause-checked
returns-clause-checked c = checked_numbers

pub returns-clause-forms : goal.returns-clause-forms
returns-clause-forms c = form_numbers

pub returns-clause-each : goal.returns-clause-each
returns-clause-each c = listed_numbers

pub returns-clause-all : goal.returns-clause-all
returns-clause-all c = numbers_of_bytes

pub returns-clause-spelled : goal.returns-clause-spelled
returns-clause-spelled c = unread_first
