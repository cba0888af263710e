use Rattle.lisa_machine.proofs.Among.{stand_both, stand_first}
use Rattle.lisa_machine.proofs.contents.parts_stand.Goals as goal

pub returns-clause-both : goal.returns-clause-both
returns-clause-both c = λ d xs ys. stand_both d xs ys

pub returns-clause-first : goal.returns-clause-first
returns-clause-first c = λ d a rest. stand_first d a rest
