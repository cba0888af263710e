use Rattle.std.proofs.Common.{sym, ◌∙◌}
use Rattle.vcd_trace.specs.VcdFaults.{is_unknown}
use Rattle.vcd_trace.proofs.FindLaws.{sought_here, sought_on, sought_none}
use Rattle.vcd_trace.proofs.checks.find_unknown.Goals as goal

pub returns-then-is_unknown : goal.returns-then-is_unknown
returns-then-is_unknown c = sym (sought_here (is_unknown c.args.codes.now.variables.now) c.args.events.now c.loop-event.event-index c.event-item.result c.loop-event-test.true c.event-item.is c.loop-event.invariant (sym c.is_unknown.ensures ∙ c.if-is_unknown.true))

pub loop-event-preserved : goal.loop-event-preserved
loop-event-preserved c = sought_on (is_unknown c.args.codes.now.variables.now) c.args.events.now c.loop-event.event-index c.event-item.result c.loop-event-test.true c.event-item.is c.loop-event.invariant (sym c.is_unknown.ensures ∙ c.if-is_unknown.false)

pub returns : goal.returns
returns c = sym (sought_none (is_unknown c.args.codes.now.variables.now) c.args.events.now c.loop-event.event-index c.loop-event-test.false c.loop-event.invariant)
