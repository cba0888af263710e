use Rattle.std.proofs.Common.{◌≤◌, ◌+◌, ◌-◌}
use Rattle.lisa_engine.specs.Machines.{course_of}
use Rattle.lisa_debug.proofs.Readings.{Reads}
use Rattle.lisa_debug.proofs.input.answer_lines.Given as goal

abbrev pub invariant-loop-taken : goal.invariant-loop-taken
invariant-loop-taken g l =
    Reads (course_of (g.E.Engine.machine l.fn.session.engine) l.fn.session.schedule)
    (course_of (g.E.Engine.machine l.session.engine) l.session.schedule)
    (g.E.Engine.present l.session.engine) l.session.journal l.line.items l.taken (g.I.Source.left l.fn.input) (g.I.Source.left l.input) (g.O.Sink.written l.fn.out) (g.O.Sink.written l.out)
    × (g.I.Source.faults l.fn.input ≤ g.I.Source.faults l.input)
    × (g.O.Sink.faults l.fn.out ≤ g.O.Sink.faults l.out)

abbrev pub decreases-loop-taken : goal.decreases-loop-taken
decreases-loop-taken g l = 1048576 + 1 - l.taken
