use Rattle.std.proofs.Common.{length}
use Rattle.lisa_io.proofs.Known.{puts_stop}
use Rattle.lisa_engine.specs.Machines.{course_of, state_at}
use Rattle.lisa_engine.specs.Text.{changes_text}
use Rattle.lisa_engine.proofs.TraceTexts.{unless_ok, unless_failed, unless_then}
use Rattle.lisa_engine.proofs.trace.write_trace.Goals as goal

pub returns-in_err-write_state-clause-text : goal.returns-in_err-write_state-clause-text
returns-in_err-write_state-clause-text g c =
    unless_failed _ _ c.from_residual-in_err-write_state.ensures.1
    (puts_stop (changes_text (g.E.Engine.machine c.args.engine.now).items (g.E.Engine.machine c.args.engine.now).arrays
    (state_at (course_of (g.E.Engine.machine c.args.engine.now) c.args.schedule.now)) c.args.count)
    (rw c.requires.first at c.in_err-write_state.ensures))

pub returns-clause-text : goal.returns-clause-text
returns-clause-text g c = unless_then {T = Unit {0}} {u = tt} (unless_ok (rw c.requires.first at c.in_ok-write_state.ensures)) c.trace_edges.ensures.text
