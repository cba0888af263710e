use Rattle.lisa_io.proofs.Known.{puts_then, puts_stop}
use Rattle.lisa_engine.specs.Machines.{course_of, state_at}
use Rattle.lisa_engine.proofs.TraceTexts.{unless_ok, unless_failed}
use Rattle.vcd_trace.specs.VcdText.{edges_text}
use Rattle.vcd_trace.proofs.EdgeTexts.{puts_over, joined_text}
use Rattle.vcd_trace.proofs.runs.write_vcd.Goals as goal

pub returns-in_err-put_start-clause-text : goal.returns-in_err-put_start-clause-text
returns-in_err-put_start-clause-text g c =
    unless_failed _ _ c.from_residual-in_err-put_start.ensures.1
    (puts_over (joined_text (g.E.Engine.machine c.args.engine.now).items (λ k. (state_at (course_of (g.E.Engine.machine c.args.engine.now) c.args.schedule.now) k).items) c.args.count)
    (puts_stop (edges_text (g.E.Engine.machine c.args.engine.now).items (λ k. (state_at (course_of (g.E.Engine.machine c.args.engine.now) c.args.schedule.now) k).items) c.args.count)
    (rw c.requires.first at c.in_err-put_start.ensures)))

pub returns-in_err-write_edges-clause-text : goal.returns-in_err-write_edges-clause-text
returns-in_err-write_edges-clause-text g c =
    unless_failed _ _ c.from_residual-in_err-write_edges.ensures.1
    (puts_over (joined_text (g.E.Engine.machine c.args.engine.now).items (λ k. (state_at (course_of (g.E.Engine.machine c.args.engine.now) c.args.schedule.now) k).items) c.args.count)
    (puts_then (rw c.requires.first at c.in_ok-put_start.ensures) c.in_err-write_edges.ensures.text))

pub returns-clause-text : goal.returns-clause-text
returns-clause-text g c =
    unless_ok
    (puts_over (joined_text (g.E.Engine.machine c.args.engine.now).items (λ k. (state_at (course_of (g.E.Engine.machine c.args.engine.now) c.args.schedule.now) k).items) c.args.count)
    (puts_then (rw c.requires.first at c.in_ok-put_start.ensures) c.in_ok-write_edges.ensures.text))
