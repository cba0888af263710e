use Rattle.std.proofs.Common.{◌≡◌, drop, None}
use Rattle.vcd_trace.specs.VcdFaults.{first_fall}
use Rattle.vcd_trace.proofs.checks.find_fall.Given as goal

abbrev pub invariant-loop-event : goal.invariant-loop-event
invariant-loop-event l = first_fall l.before (drop l.event-index l.events) ≡ first_fall None l.events
