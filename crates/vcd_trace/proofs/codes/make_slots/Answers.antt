use Rattle.std.proofs.Common.{arith, ap}
use Rattle.vcd_trace.specs.Written.{Variable}
use Rattle.vcd_trace.proofs.CodeLaws.{one_behind}
use Rattle.vcd_trace.proofs.codes.make_slots.Goals as goal

pub loop-left-preserved : goal.loop-left-preserved
loop-left-preserved c = (
  omega (arith, c.loop-left.invariant.0),
  one_behind c.args.variables.now c.loop-left.left c.index-variables-left.result (omega arith) c.loop-left.invariant.0 c.index-variables-left.is
      c.loop-left.slots c.insert.new.self c.variable.inside.code (ap (λ (v : Variable). v.code) c.variable.view_is) c.in_ok-insert.ensures.updates c.loop-left.invariant.1,
)
