use Rattle.lisa_machine.proofs.Falling.{node_ranks}
use Rattle.lisa_machine.proofs.Sound.{sound}
use Rattle.scene_promises.proofs.Lower.{run_ranks}
use Rattle.scene_promises.proofs.running.runs_end.Goals as goal

pub returns : goal.returns
returns c = λ d accepted. run_ranks d (node_ranks d (sound d accepted).circles)
