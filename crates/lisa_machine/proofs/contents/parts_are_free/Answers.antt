use Rattle.lisa_machine.proofs.Among.{free_each, free_all, free_both, free_first}
use Rattle.lisa_machine.proofs.contents.parts_are_free.Goals as goal

pub returns-clause-each : goal.returns-clause-each
returns-clause-each c = λ breaks all. (λ free. free_each breaks all free, λ each. free_all breaks all each)

pub returns-clause-both : goal.returns-clause-both
returns-clause-both c = λ breaks xs ys. free_both breaks xs ys

pub returns-clause-first : goal.returns-clause-first
returns-clause-first c = λ breaks a rest. free_first breaks a rest
