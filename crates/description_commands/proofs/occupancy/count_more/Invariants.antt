use Rattle.description_commands.proofs.Counting.{CountedTo}
use Rattle.description_commands.proofs.occupancy.count_more.Given as goal

abbrev pub invariant-loop-stage : goal.invariant-loop-stage
invariant-loop-stage l = CountedTo l.stages l.fn.counts l.counts l.stage
