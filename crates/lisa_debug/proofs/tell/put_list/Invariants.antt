use Rattle.std.proofs.Common.{Ok, take}
use Rattle.std.specs.List.{flat_map}
use Rattle.lisa_io.specs.Contents.{Puts}
use Rattle.lisa_io.specs.declared.outside.Failed.{Failed}
use Rattle.lisa_debug.specs.Answers.{list_line}
use Rattle.lisa_debug.proofs.tell.put_list.Given as goal

abbrev pub invariant-loop-item : goal.invariant-loop-item
invariant-loop-item g l =
    Puts {T = Unit {0}} {E = Failed} (g.O.Sink.written l.fn.out) (g.O.Sink.written l.out) (g.O.Sink.faults l.fn.out) (g.O.Sink.faults l.out) (Ok tt)
    (flat_map list_line (take l.item-index l.items))
