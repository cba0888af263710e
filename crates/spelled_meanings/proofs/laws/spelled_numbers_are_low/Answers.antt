use Rattle.lisa_tree.specs.Operations.{sections_at, activation_in}
use Rattle.spelled_promises.proofs.Outer.{well_formed}
use Rattle.spelled_promises.proofs.Found.{sections_formed, behavior_formed, expression_formed, activation_formed}
use Rattle.spelled_meanings.proofs.Numbers.{low, low_statements, low_condition}
use Rattle.spelled_meanings.proofs.laws.spelled_numbers_are_low.Goals as goal

pub returns-clause-expressions : goal.returns-clause-expressions
returns-clause-expressions c = λ bytes d s o e is. low e (expression_formed (sections_at d o) e (sections_formed d (well_formed bytes d s) o) is)

pub returns-clause-behaviors : goal.returns-clause-behaviors
returns-clause-behaviors c = λ bytes d s o all is. low_statements all (behavior_formed (sections_at d o) all (sections_formed d (well_formed bytes d s) o) is)

pub returns-clause-tests : goal.returns-clause-tests
returns-clause-tests c = λ bytes d s o test e is.
    low_condition (activation_in (sections_at d o)) (λ all at. activation_formed (sections_at d o) all (sections_formed d (well_formed bytes d s) o) at) test e is
