-- The end of a command whose program wasn't drawn.
use Rattle.lisa_object.specs.declared.faults.GenFault.{GenFault}
use Rattle.lisa_object.specs.declared.faults.GenFault.TheVariants as faults
use Rattle.lisa_outcomes.specs.declared.status.End.{End}
use Rattle.lisa_outcomes.specs.declared.status.End.TheVariants as ends
use Rattle.lisa_outcomes.specs.declared.status.Refusal.TheVariants as refusals

abbrev pub undrawn_end : GenFault → End
undrawn_end faults.NoMemory = ends.NoMemory
undrawn_end fault = ends.Refused (refusals.Program fault)
