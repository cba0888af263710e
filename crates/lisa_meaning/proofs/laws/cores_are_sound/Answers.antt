use Rattle.use_promises.proofs.lisa_machine_proofs.Sound.{sound}
use Rattle.use_promises.proofs.lisa_machine_proofs.Forward.{onward, main_is}
use Rattle.lisa_meaning.proofs.Back.{controls_back}
use Rattle.lisa_meaning.proofs.Nodes.{listed, no_stage}
use Rattle.lisa_meaning.proofs.Sounds.{sound_by}
use Rattle.lisa_meaning.proofs.laws.cores_are_sound.Goals as goal

pub returns : goal.returns
returns c d accepted has =
    let s = sound d accepted in
    let m = main_is d s.main in
    let main_free = no_stage d m.number m.operation m.is m.no_stage in
    sound_by d (onward d s.activations) has (controls_back d s) m.number m.named main_free (listed d m.number m.named main_free)
