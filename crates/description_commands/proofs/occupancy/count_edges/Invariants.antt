use Rattle.description_commands.proofs.Watching.{Watched}
use Rattle.description_commands.proofs.occupancy.count_edges.Given as goal

abbrev pub invariant-loop-made : goal.invariant-loop-made
invariant-loop-made l = Watched l.fn.simulator l.simulator l.schedule l.made l.next l.pins l.counts
