use Rattle.operator_promises.proofs.BehaviorLevels.{grouped, spelled}
use Rattle.operator_promises.proofs.laws.expressions_are_grouped.Goals as goal

pub returns-clause-grouped : goal.returns-clause-grouped
returns-clause-grouped c = λ level ts t some few d. grouped d some few

pub returns-clause-spelled : goal.returns-clause-spelled
returns-clause-spelled c = λ level ts t d. spelled d
