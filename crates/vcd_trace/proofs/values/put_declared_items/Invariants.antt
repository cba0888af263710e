use Rattle.std.proofs.Common.{Ok, take}
use Rattle.std.specs.List.{flat_map, enumerate_from}
use Rattle.lisa_io.specs.Contents.{Puts}
use Rattle.lisa_io.specs.declared.outside.Failed.{Failed}
use Rattle.vcd_trace.specs.VcdText.{declaration_line}
use Rattle.vcd_trace.proofs.values.put_declared_items.Given as goal

abbrev pub invariant-loop-place : goal.invariant-loop-place
invariant-loop-place g l =
    Puts {T = Unit {0}} {E = Failed} (g.O.Sink.written l.fn.out) (g.O.Sink.written l.out) (g.O.Sink.faults l.fn.out) (g.O.Sink.faults l.out) (Ok tt)
    (flat_map declaration_line (take l.place (enumerate_from 0 l.fn.items)))
