use Rattle.use_promises.proofs.lisa_machine_proofs.Sound.{sound}
use Rattle.use_promises.proofs.lisa_machine_proofs.Forward.{onward, main_is}
use Rattle.lisa_meaning.proofs.Nodes.{listed, no_stage}
use Rattle.lisa_meaning.proofs.Onward.{levels_forward}
use Rattle.lisa_meaning.proofs.laws.levels_go_forward.Goals as goal

pub returns : goal.returns
returns c d accepted =
    let s = sound d accepted in
    let m = main_is d s.main in
    levels_forward d (onward d s.activations) (listed d m.number m.named (no_stage d m.number m.operation m.is m.no_stage))
