use Rattle.std.proofs.Common.{inr}
use Rattle.lisa_machine.proofs.checking.check.Goals as goal

pub new-requires-clause-accepted : goal.new-requires-clause-accepted
new-requires-clause-accepted c = c.in_ok-first_fault.ensures.accepted c.in-None.is

pub returns-in_ok-parts-in-None-clause-accepted : goal.returns-in_ok-parts-in-None-clause-accepted
returns-in_ok-parts-in-None-clause-accepted c = c.in_ok-first_fault.ensures.accepted c.in-None.is

pub returns-in-Some-clause-fault : goal.returns-in-Some-clause-fault
returns-in-Some-clause-fault c = inr (c.in_ok-first_fault.ensures.fault c.in-Some.fault c.in-Some.is)
