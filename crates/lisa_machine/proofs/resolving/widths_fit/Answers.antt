use Rattle.lisa_machine.proofs.Sound.{sound}
use Rattle.lisa_machine.proofs.Resolved.{resource_fits, cast_fits, local_wide, counter_wide}
use Rattle.lisa_machine.proofs.resolving.widths_fit.Goals as goal

pub returns-clause-resources : goal.returns-clause-resources
returns-clause-resources c = λ d accepted k r is. let w = sound d accepted in resource_fits d w.widths w.depths k r is

pub returns-clause-casts : goal.returns-clause-casts
returns-clause-casts c = λ d accepted o region scope shape s. let w = sound d accepted in cast_fits d w.widths o region scope shape s

pub returns-clause-locals : goal.returns-clause-locals
returns-clause-locals c = λ d accepted o region scope shape n value s. let w = sound d accepted in local_wide d w.widths o region scope shape n value s

pub returns-clause-counters : goal.returns-clause-counters
returns-clause-counters c = λ d accepted o region scope head shape is s. let w = sound d accepted in counter_wide d w.widths o region scope head shape is s
