use Rattle.lisa_syntax.proofs.OneText.{texts_written, one_of_form, one_of_all}
use Rattle.lisa_syntax.proofs.laws.texts_are_of_one_instruction.Goals as goal

pub returns-clause-written : goal.returns-clause-written
returns-clause-written c = λ d k ts accepted has within. texts_written d accepted has k ts within

pub returns-clause-own : goal.returns-clause-own
returns-clause-own c = λ d k vs ws t u accepted has a b e. one_of_form d accepted has k vs ws t u a b e

pub returns-clause-all : goal.returns-clause-all
returns-clause-all c = λ d j k vs ws t u accepted has apart a b e. one_of_all d accepted has j k vs ws t u apart a b e
