use Rattle.lisa_machine.proofs.Forward.{onward, main_is}
use Rattle.lisa_machine.proofs.Sound.{sound}
use Rattle.lisa_meaning.proofs.Nodes.{listed, no_stage}
use Rattle.lisa_meaning.proofs.Roots.{root_one}
use Rattle.meaning_promises.proofs.Occurring.{one_root}
use Rattle.child_promises.proofs.Below.{activating, scene_is_child}
use Rattle.child_promises.proofs.activating.scenes_are_children.Goals as goal

pub returns-clause-named : goal.returns-clause-named
returns-clause-named c = λ d accepted k p x a b. activating d (sound d accepted) k p x a b

pub returns-clause-paths : goal.returns-clause-paths
returns-clause-paths c = λ d accepted has n k p w v x a b chosen same.
    let s = sound d accepted in
    let m = main_is d s.main in
    let one = one_root d s (root_one d (onward d s.activations) has (listed d m.number m.named (no_stage d m.number m.operation m.is m.no_stage))) in
    scene_is_child d s one n k p x a b w v chosen same
