use Rattle.lisa_machine.proofs.Sound.{sound}
use Rattle.lisa_meaning.specs.Scenes.{running}
use Rattle.use_promises.proofs.Used.{call_fits, reads_run, writes_run}
use Rattle.scene_promises.proofs.Nearest.{in_place}
use Rattle.scene_promises.proofs.running.children_run_in_place.Goals as goal

pub returns-clause-calls : goal.returns-clause-calls
returns-clause-calls c = λ d accepted scene runs region scope n stands child.
    let s = sound d accepted in
    let f = call_fits d s.known s.kinds s.names s.stand s.uses (running scene) region scope n stands in
    in_place d s scene runs n f.number f.declared f.run child

pub returns-clause-reads : goal.returns-clause-reads
returns-clause-reads c = λ d accepted scene runs region scope n i stands none at child.
    let s = sound d accepted in
    in_place d s scene runs n i at (reads_run d s.known s.kinds s.names s.stand s.uses (running scene) i region scope n stands none at) child

pub returns-clause-writes : goal.returns-clause-writes
returns-clause-writes c = λ d accepted scene runs region scope n i stands none at child.
    let s = sound d accepted in
    in_place d s scene runs n i at (writes_run d s.known s.kinds s.names s.stand s.uses (running scene) i region scope n stands none at) child
