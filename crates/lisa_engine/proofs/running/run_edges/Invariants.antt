use Rattle.std.proofs.Common.{◌+◌, length}
use Rattle.lisa_engine.proofs.Edges.{Led, ArePlayed}
use Rattle.lisa_engine.proofs.running.run_edges.Given as goal

abbrev pub invariant-loop-made : goal.invariant-loop-made
invariant-loop-made g l =
    Led g.E.Engine.present g.E.Engine.machine l.fn.engine l.engine l.schedule l.from (l.from + l.made)
    × ArePlayed l.schedule (length (g.E.Engine.machine l.fn.engine).pins) (l.from + l.made) l.next l.pins
