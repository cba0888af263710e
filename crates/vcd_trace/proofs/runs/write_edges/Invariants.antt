use Rattle.std.proofs.Common.{◌≡◌, Ok, length}
use Rattle.lisa_io.specs.Contents.{Puts}
use Rattle.lisa_io.specs.declared.outside.Failed.{Failed}
use Rattle.lisa_engine.specs.Machines.{course_of, state_at}
use Rattle.lisa_engine.proofs.Edges.{Led, ArePlayed}
use Rattle.vcd_trace.specs.VcdText.{edges_text}
use Rattle.vcd_trace.proofs.runs.write_edges.Given as goal

abbrev pub invariant-loop-made : goal.invariant-loop-made
invariant-loop-made g l =
    Led g.E.Engine.present g.E.Engine.machine l.fn.engine l.engine l.schedule 0 l.made
    × ArePlayed l.schedule (length (g.E.Engine.machine l.fn.engine).pins) l.made l.next l.pins
    × Puts {T = Unit {0}} {E = Failed} (g.O.Sink.written l.fn.out) (g.O.Sink.written l.out) (g.O.Sink.faults l.fn.out) (g.O.Sink.faults l.out) (Ok tt)
    (edges_text (g.E.Engine.machine l.fn.engine).items (λ k. (state_at (course_of (g.E.Engine.machine l.fn.engine) l.schedule) k).items) l.made)
    × (l.before ≡ (g.E.Engine.present l.engine).items)
