use Rattle.lisa_machine.proofs.Standing.{section_stands, inner_stand, declares_stand, coding_stand, syntax_stand, behavior_stand, expression_stand, activation_stand}
use Rattle.lisa_machine.proofs.contents.sections_stand.Goals as goal

pub returns-clause-sections : goal.returns-clause-sections
returns-clause-sections c = λ d o k s is. section_stands d o k s is

pub returns-clause-inner : goal.returns-clause-inner
returns-clause-inner c = λ d o k s is. inner_stand d o k s is

pub returns-clause-declares : goal.returns-clause-declares
returns-clause-declares c = λ d o. declares_stand d o

pub returns-clause-coding : goal.returns-clause-coding
returns-clause-coding c = λ d o x is. coding_stand d o x is

pub returns-clause-syntax : goal.returns-clause-syntax
returns-clause-syntax c = λ d o x is. syntax_stand d o x is

pub returns-clause-behavior : goal.returns-clause-behavior
returns-clause-behavior c = λ d o x is. behavior_stand d o x is

pub returns-clause-expression : goal.returns-clause-expression
returns-clause-expression c = λ d o x is. expression_stand d o x is

pub returns-clause-activation : goal.returns-clause-activation
returns-clause-activation c = λ d o x is. activation_stand d o x is
