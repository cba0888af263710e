use Rattle.vcd_trace.specs.VcdFaults.{is_unknown}
use Rattle.vcd_trace.proofs.FindLaws.{IsSought}
use Rattle.vcd_trace.proofs.checks.find_unknown.Given as goal

abbrev pub invariant-loop-event : goal.invariant-loop-event
invariant-loop-event l = IsSought (is_unknown l.fn.codes.variables.now) l.fn.events l.event-index
