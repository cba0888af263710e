use Rattle.std.proofs.Common.{Ok, take}
use Rattle.std.specs.List.{flat_map, enumerate_from}
use Rattle.lisa_io.specs.Contents.{Puts}
use Rattle.lisa_io.specs.declared.outside.Failed.{Failed}
use Rattle.lisa_engine.specs.State.{cells_of}
use Rattle.lisa_engine.specs.Changes.{touched_line}
use Rattle.lisa_engine.proofs.ChangedCells.{IsDone}
use Rattle.lisa_engine.proofs.trace.put_changed_array.Given as goal

abbrev pub invariant-loop-place : goal.invariant-loop-place
invariant-loop-place g l =
    Puts {T = Unit {0}} {E = Failed} (g.O.Sink.written l.fn.out) (g.O.Sink.written l.out) (g.O.Sink.faults l.fn.out) (g.O.Sink.faults l.out) (Ok tt)
    (flat_map (touched_line l.row l.name l.array) (take l.next (enumerate_from 0 (cells_of (g.E.Engine.present l.fn.engine) l.array))))
    × IsDone l.row (cells_of (g.E.Engine.present l.fn.engine) l.array) l.array l.place l.next
