use Rattle.use_promises.proofs.lisa_machine_proofs.Sound.{sound}
use Rattle.use_promises.proofs.lisa_machine_proofs.Forward.{main_is}
use Rattle.lisa_meaning.proofs.Nodes.{listed, no_stage}
use Rattle.lisa_meaning.proofs.Onward.{chosen_decoded}
use Rattle.lisa_meaning.proofs.laws.instructions_choose.Goals as goal

pub returns : goal.returns
returns c d accepted = let m = main_is d (sound d accepted).main in chosen_decoded d (listed d m.number m.named (no_stage d m.number m.operation m.is m.no_stage))
