use Rattle.lisa_machine.proofs.Sound.{sound}
use Rattle.use_promises.proofs.Used.{starts_child, operand_child, root_child, shown_child}
use Rattle.use_promises.proofs.using.children_fit.Goals as goal

pub returns-clause-starts : goal.returns-clause-starts
returns-clause-starts c = λ d accepted o n stands. let s = sound d accepted in starts_child d s.known s.kinds s.names s.stand s.uses o n stands

pub returns-clause-operands : goal.returns-clause-operands
returns-clause-operands c = λ d accepted o n stands. let s = sound d accepted in operand_child d s.known s.kinds s.names s.stand s.uses o n stands

pub returns-clause-roots : goal.returns-clause-roots
returns-clause-roots c = λ d accepted o word n stands. let s = sound d accepted in root_child d s.known s.kinds s.names s.stand s.uses o word n stands

pub returns-clause-shown : goal.returns-clause-shown
returns-clause-shown c = λ d accepted o n stands. let s = sound d accepted in shown_child d s.known s.kinds s.names s.stand s.uses o n stands
