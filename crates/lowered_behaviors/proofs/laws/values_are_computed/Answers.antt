use Rattle.lowered_behaviors.proofs.Scratch.{value_scratch}
use Rattle.lowered_behaviors.proofs.Valued.{value_stands}
use Rattle.lowered_behaviors.proofs.laws.values_are_computed.Goals as goal

pub returns-clause-values : goal.returns-clause-values
returns-clause-values c g p before pins first lasts ground standpoint scene region scope from e call m now are runs read numbers is lies h =
    value_stands g p before pins first lasts ground standpoint scene region scope read.0 from e m now are runs read.1 read.2 numbers is lies h.has h.holds h.locals

pub returns-clause-scratch : goal.returns-clause-scratch
returns-clause-scratch c g p before pins more standpoint scope from e = value_scratch g more standpoint scope from e
