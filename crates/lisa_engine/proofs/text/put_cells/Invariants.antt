use Rattle.std.proofs.Common.{Ok, take}
use Rattle.std.specs.List.{flat_map, enumerate_from}
use Rattle.lisa_io.specs.Contents.{Puts}
use Rattle.lisa_io.specs.declared.outside.Failed.{Failed}
use Rattle.lisa_engine.specs.State.{cells_of}
use Rattle.lisa_engine.specs.Text.{cell_line}
use Rattle.lisa_engine.proofs.text.put_cells.Given as goal

abbrev pub invariant-loop-index : goal.invariant-loop-index
invariant-loop-index g l =
    Puts {T = Unit {0}} {E = Failed} (g.O.Sink.written l.fn.out) (g.O.Sink.written l.out) (g.O.Sink.faults l.fn.out) (g.O.Sink.faults l.out) (Ok tt)
    (flat_map (cell_line l.fn.name) (take l.index (enumerate_from 0 (cells_of (g.E.Engine.present l.fn.engine) l.fn.array))))
