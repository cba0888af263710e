use Rattle.lisa_machine.proofs.Sound.{sound}
use Rattle.touch_promises.specs.lisa_meaning.Cores.{core_of}
use Rattle.lowered_edges.specs.Parts.{operations}
use Rattle.module_sizes.specs.Priced.{prices_of}
use Rattle.module_sizes.proofs.Activating.{edge_few}
use Rattle.module_sizes.proofs.Priced.{are_priced}
use Rattle.module_sizes.proofs.Quiet.{is_quiet}
use Rattle.module_sizes.proofs.laws.turns_are_paid_by_activations.Goals as goal

pub returns : goal.returns
returns c p most rates d types width layout longest accepted forms laid from formed =
    edge_few p most longest rates (core_of d) (operations d types width) layout (prices_of d rates) (are_priced d (sound d accepted) types width p most longest rates)
    (is_quiet (core_of d) layout p laid (c.cores_are_sound.ensures d accepted forms)) from formed
