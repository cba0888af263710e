use Rattle.lisa_machine.proofs.Sound.{sound}
use Rattle.module_sizes.specs.Standing.{IsStood}
use Rattle.module_sizes.specs.Unfolded.{names_of}
use Rattle.module_sizes.proofs.Reading.{within_costs}
use Rattle.module_sizes.proofs.Tables.{are_named}
use Rattle.module_sizes.proofs.laws.expressions_are_paid_by_their_nodes.Goals as goal

pub returns : goal.returns
returns c p most rates g longest accepted more at scope from e stood =
    let d = g.description in
    (within_costs p most longest rates g (names_of d rates) (IsStood d) (are_named d (sound d accepted) rates) more at scope from e stood).low
