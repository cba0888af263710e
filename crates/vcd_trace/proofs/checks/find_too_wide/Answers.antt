use Rattle.std.proofs.Common.{sym, ◌∙◌}
use Rattle.vcd_trace.specs.VcdFaults.{is_too_wide}
use Rattle.vcd_trace.proofs.FindLaws.{sought_here, sought_on, sought_none}
use Rattle.vcd_trace.proofs.checks.find_too_wide.Goals as goal

pub returns-then-is_too_wide : goal.returns-then-is_too_wide
returns-then-is_too_wide c = sym (sought_here (is_too_wide c.args.codes.now.variables.now) c.args.events.now c.loop-event.event-index c.event-item.result c.loop-event-test.true c.event-item.is c.loop-event.invariant (sym c.is_too_wide.ensures ∙ c.if-is_too_wide.true))

pub loop-event-preserved : goal.loop-event-preserved
loop-event-preserved c = sought_on (is_too_wide c.args.codes.now.variables.now) c.args.events.now c.loop-event.event-index c.event-item.result c.loop-event-test.true c.event-item.is c.loop-event.invariant (sym c.is_too_wide.ensures ∙ c.if-is_too_wide.false)

pub returns : goal.returns
returns c = sym (sought_none (is_too_wide c.args.codes.now.variables.now) c.args.events.now c.loop-event.event-index c.loop-event-test.false c.loop-event.invariant)
