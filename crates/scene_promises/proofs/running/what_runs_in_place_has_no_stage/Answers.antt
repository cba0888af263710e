use Rattle.lisa_machine.proofs.Forward.{stall_fits, flush_fits}
use Rattle.lisa_machine.proofs.Sound.{sound}
use Rattle.scene_promises.proofs.Unstaged.{no_stage, of_main}
use Rattle.scene_promises.proofs.running.what_runs_in_place_has_no_stage.Goals as goal

pub returns-clause-places : goal.returns-clause-places
returns-clause-places c = λ d accepted o runs region scope place stands own. no_stage d (sound d accepted) o runs region scope place stands own

pub returns-clause-stalls : goal.returns-clause-stalls
returns-clause-stalls c = λ d accepted o runs region scope pipe stage stands.
    let s = sound d accepted in
    of_main d s o runs region scope pipe stage (stall_fits d s.stand s.controls o region scope pipe stage stands)

pub returns-clause-flushes : goal.returns-clause-flushes
returns-clause-flushes c = λ d accepted o runs region scope pipe stage stands.
    let s = sound d accepted in
    of_main d s o runs region scope pipe stage (flush_fits d s.stand s.controls o region scope pipe stage stands)
