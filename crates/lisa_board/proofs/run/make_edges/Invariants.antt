use Rattle.lisa_board.proofs.Running.{Stands}
use Rattle.lisa_board.proofs.run.make_edges.Given as goal

abbrev pub invariant-loop-made : goal.invariant-loop-made
invariant-loop-made g l = Stands g.E.Engine.present g.E.Engine.machine l.fn.engine l.engine l.board l.input l.made l.counters l.port l.printed.items
