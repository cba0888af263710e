use Rattle.lisa_machine.proofs.Sound.{sound}
use Rattle.lisa_machine.proofs.Forward.{loop_fits}
use Rattle.use_promises.proofs.Counted.{counter_holds, turns_below}
use Rattle.use_promises.proofs.resetting.counters_hold.Goals as goal

pub returns-clause-values : goal.returns-clause-values
returns-clause-values c = λ d accepted o region scope head stands. let s = sound d accepted in counter_holds d s.bounds s.widths o region scope head stands

pub returns-clause-turns : goal.returns-clause-turns
returns-clause-turns c = λ d accepted o region scope head stands.
    let s = sound d accepted in
    turns_below head (counter_holds d s.bounds s.widths o region scope head stands) (loop_fits d s.bounds s.turns o region scope head stands)
