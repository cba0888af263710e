use Rattle.use_promises.proofs.lisa_machine_proofs.Sound.{sound}
use Rattle.use_promises.proofs.lisa_machine_proofs.Forward.{onward, main_is}
use Rattle.lisa_meaning.proofs.Nodes.{listed, no_stage}
use Rattle.lisa_meaning.proofs.Roots.{root_one}
use Rattle.lisa_meaning.proofs.laws.root_is_one.Goals as goal

pub returns : goal.returns
returns c d accepted has =
    let s = sound d accepted in
    let m = main_is d s.main in
    root_one d (onward d s.activations) has (listed d m.number m.named (no_stage d m.number m.operation m.is m.no_stage))
