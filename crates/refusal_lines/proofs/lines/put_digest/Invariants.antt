use Rattle.std.proofs.Common.{Ok, take}
use Rattle.std.specs.List.{flat_map}
use Rattle.lisa_io.specs.Contents.{Puts}
use Rattle.lisa_io.specs.declared.outside.Failed.{Failed}
use Rattle.lisa_object.specs.Texts.{byte_digits}
use Rattle.refusal_lines.proofs.lines.put_digest.Given as goal

abbrev pub invariant-loop-place : goal.invariant-loop-place
invariant-loop-place g l =
    Puts {T = Unit {0}} {E = Failed} (g.E.Sink.written l.fn.err) (g.E.Sink.written l.err) (g.E.Sink.faults l.fn.err) (g.E.Sink.faults l.err) (Ok tt)
    (flat_map byte_digits (take l.place l.fn.bytes))
