use Rattle.checked_descriptions.proofs.Tooled.{one_checked, no_fault_in_checked}
use Rattle.checked_descriptions.proofs.laws.checks_are_unique.Goals as goal

pub returns-clause-one : goal.returns-clause-one
returns-clause-one c = λ d a b x y. one_checked d a b x y

pub returns-clause-whole : goal.returns-clause-whole
returns-clause-whole c = λ d checked refusal is wrong. no_fault_in_checked d wrong.0 checked is wrong.1
