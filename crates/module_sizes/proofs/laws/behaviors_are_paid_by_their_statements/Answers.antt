use Rattle.lisa_machine.proofs.Sound.{sound}
use Rattle.module_sizes.specs.Standing.{IsStood}
use Rattle.module_sizes.specs.Unfolded.{names_of}
use Rattle.module_sizes.proofs.Behaving.{behavior_cost}
use Rattle.module_sizes.proofs.Tables.{are_named}
use Rattle.module_sizes.proofs.laws.behaviors_are_paid_by_their_statements.Goals as goal

pub returns : goal.returns
returns c p most rates g longest accepted more at guard from stood free =
    let d = g.description in
    behavior_cost p most longest rates g (names_of d rates) (IsStood d) (are_named d (sound d accepted) rates) more at guard from stood free
