use Rattle.std.proofs.Common.{◌+◌, arith}
use Rattle.lisa_io.proofs.Known.{puts_exit, puts_early}
use Rattle.lisa_engine.proofs.Lines.{places_more, places_whole}
use Rattle.vcd_trace.specs.VcdText.{declaration_line}
use Rattle.vcd_trace.proofs.values.put_declared_items.Goals as goal

pub returns-in_err-put_declaration : goal.returns-in_err-put_declaration
returns-in_err-put_declaration g c =
    puts_exit _ _ c.from_residual.ensures.1
    (puts_early declaration_line _ (c.loop-place.place + 1) _ _ _ _ _
    (places_more declaration_line _ c.loop-place.place c.index-items-place.result _ _ _ _ _ _ _ _ (omega arith) c.index-items-place.is c.loop-place.invariant c.in_err-put_declaration.ensures))

pub loop-place-preserved : goal.loop-place-preserved
loop-place-preserved g c =
    places_more declaration_line _ c.loop-place.place c.index-items-place.result _ _ _ _ _ _ _ _ (omega arith) c.index-items-place.is c.loop-place.invariant c.in_ok-put_declaration.ensures

pub returns : goal.returns
returns g c = places_whole declaration_line _ c.loop-place.place _ _ _ _ _ (omega arith) c.loop-place.invariant
