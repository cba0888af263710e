use Rattle.std.proofs.Common.{Ok, take}
use Rattle.std.specs.List.{flat_map, zip, enumerate_from}
use Rattle.lisa_io.specs.Contents.{Puts}
use Rattle.lisa_io.specs.declared.outside.Failed.{Failed}
use Rattle.lisa_engine.specs.Changes.{touched_array, IsCut}
use Rattle.lisa_engine.proofs.trace.put_changed_arrays.Given as goal

abbrev pub invariant-loop-place : goal.invariant-loop-place
invariant-loop-place g l =
    Puts {T = Unit {0}} {E = Failed} (g.O.Sink.written l.fn.out) (g.O.Sink.written l.out) (g.O.Sink.faults l.fn.out) (g.O.Sink.faults l.out) (Ok tt)
    (flat_map (touched_array l.row) (take l.place (enumerate_from 0 (zip (g.E.Engine.machine l.fn.engine).arrays (g.E.Engine.present l.fn.engine).cells))))
    × IsCut l.row l.place l.from
