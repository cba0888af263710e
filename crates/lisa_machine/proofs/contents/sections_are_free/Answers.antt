use Rattle.lisa_machine.proofs.Among.{free_places}
use Rattle.lisa_machine.proofs.Standing.{inner_stand, declares_stand, coding_stand, syntax_stand, behavior_stand, expression_stand, activation_stand}
use Rattle.lisa_machine.proofs.contents.sections_are_free.Goals as goal

pub returns-clause-sections : goal.returns-clause-sections
returns-clause-sections c = λ breaks d free o k s is. free_places breaks d free _ (inner_stand d o k s is)

pub returns-clause-declares : goal.returns-clause-declares
returns-clause-declares c = λ breaks d free o. free_places breaks d free _ (declares_stand d o)

pub returns-clause-coding : goal.returns-clause-coding
returns-clause-coding c = λ breaks d free o x is. free_places breaks d free _ (coding_stand d o x is)

pub returns-clause-syntax : goal.returns-clause-syntax
returns-clause-syntax c = λ breaks d free o x is. free_places breaks d free _ (syntax_stand d o x is)

pub returns-clause-behavior : goal.returns-clause-behavior
returns-clause-behavior c = λ breaks d free o x is. free_places breaks d free _ (behavior_stand d o x is)

pub returns-clause-expression : goal.returns-clause-expression
returns-clause-expression c = λ breaks d free o x is. free_places breaks d free _ (expression_stand d o x is)

pub returns-clause-activation : goal.returns-clause-activation
returns-clause-activation c = λ breaks d free o x is. free_places breaks d free _ (activation_stand d o x is)
