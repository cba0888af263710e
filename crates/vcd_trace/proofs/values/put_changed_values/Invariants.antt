use Rattle.std.proofs.Common.{◌≡◌, Ok, take, drop, ◌++◌}
use Rattle.std.specs.List.{flat_map, zip, enumerate_from}
use Rattle.lisa_io.specs.Contents.{Puts}
use Rattle.lisa_io.specs.declared.outside.Failed.{Failed}
use Rattle.vcd_trace.specs.VcdText.{changed_value}
use Rattle.vcd_trace.proofs.values.put_changed_values.Given as goal

abbrev pub invariant-loop-place : goal.invariant-loop-place
invariant-loop-place g l =
    Puts {T = Unit {0}} {E = Failed} (g.O.Sink.written l.fn.out) (g.O.Sink.written l.out) (g.O.Sink.faults l.fn.out) (g.O.Sink.faults l.out) (Ok tt)
    (flat_map changed_value (take l.place (zip (g.E.Engine.machine l.fn.engine).items (enumerate_from 0 (zip l.fn.before (g.E.Engine.present l.fn.engine).items)))))
    × (l.before ≡ take l.place (g.E.Engine.present l.fn.engine).items ++ drop l.place l.fn.before)
