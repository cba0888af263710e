use Rattle.lisa_tree.specs.Operations.{sections_at}
use Rattle.spelled_promises.proofs.Outer.{well_formed}
use Rattle.spelled_promises.proofs.Found.{sections_formed, declares_formed, coding_formed, syntax_formed, behavior_formed, expression_formed, activation_formed}
use Rattle.spelled_promises.proofs.trees.spelled_sections_are_well_formed.Goals as goal

pub returns-clause-declares : goal.returns-clause-declares
returns-clause-declares c = λ bytes d s o. declares_formed (sections_at d o) (sections_formed d (well_formed bytes d s) o)

pub returns-clause-coding : goal.returns-clause-coding
returns-clause-coding c = λ bytes d s o x is. coding_formed (sections_at d o) x (sections_formed d (well_formed bytes d s) o) is

pub returns-clause-syntax : goal.returns-clause-syntax
returns-clause-syntax c = λ bytes d s o x is. syntax_formed (sections_at d o) x (sections_formed d (well_formed bytes d s) o) is

pub returns-clause-behavior : goal.returns-clause-behavior
returns-clause-behavior c = λ bytes d s o x is. behavior_formed (sections_at d o) x (sections_formed d (well_formed bytes d s) o) is

pub returns-clause-expression : goal.returns-clause-expression
returns-clause-expression c = λ bytes d s o x is. expression_formed (sections_at d o) x (sections_formed d (well_formed bytes d s) o) is

pub returns-clause-activation : goal.returns-clause-activation
returns-clause-activation c = λ bytes d s o x is. activation_formed (sections_at d o) x (sections_formed d (well_formed bytes d s) o) is
