use Rattle.lisa_machine.proofs.Sound.{sound}
use Rattle.lisa_machine.proofs.Forward.{no_while, loop_fits}
use Rattle.lisa_machine.proofs.running.loops_end.Goals as goal

pub returns-clause-whiles : goal.returns-clause-whiles
returns-clause-whiles c = λ d accepted o region scope stands. no_while d (sound d accepted).bounds o region scope stands

pub returns-clause-fors : goal.returns-clause-fors
returns-clause-fors c = λ d accepted o region scope head stands. let s = sound d accepted in loop_fits d s.bounds s.turns o region scope head stands
