use Rattle.std.proofs.Common.{length, arith}
use Rattle.activation_trees.specs.Unfolding.{occurrences}
use Rattle.lisa_machine.proofs.Sound.{sound}
use Rattle.touch_promises.specs.lisa_meaning.Cores.{core_of}
use Rattle.module_sizes.specs.Priced.{prices_of}
use Rattle.module_sizes.proofs.Rooted.{root_once, fetch_low}
use Rattle.module_sizes.proofs.laws.roots_are_paid_once.Goals as goal

pub returns : goal.returns
returns c d rates accepted forms places =
    let core = c.cores_are_sound.ensures d accepted forms in
    let once = root_once (core_of d) (prices_of d rates) core.root core.one_root 0 (length (occurrences d)) in
    let fetch = fetch_low d (sound d accepted) places rates in
    omega (arith, once, fetch)
