-- The end of a command whose description wasn't read.
use Rattle.lisa_tree.specs.declared.faults.DescFault.{DescFault}
use Rattle.lisa_tree.specs.declared.faults.DescFault.TheVariants as descriptions
use Rattle.lisa_outcomes.specs.declared.status.End.{End}
use Rattle.lisa_outcomes.specs.declared.status.End.TheVariants as ends
use Rattle.lisa_outcomes.specs.declared.status.Refusal.TheVariants as refusals

abbrev pub unread_end : DescFault → End
unread_end descriptions.NoMemory = ends.NoMemory
unread_end fault = ends.Refused (refusals.Description fault)
