use Rattle.vcd_trace.proofs.FirstLaws.{Seen}
use Rattle.vcd_trace.proofs.firsts.first_codes.Given as goal

abbrev pub invariant-loop-event : goal.invariant-loop-event
invariant-loop-event l = Seen l.events l.event-index l.codes l.timed
