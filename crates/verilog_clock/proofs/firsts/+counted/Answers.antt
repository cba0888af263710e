use Rattle.std.proofs.Common.{ap, arith}
use Rattle.verilog_clock.specs.Compiled.{acts_most}
use Rattle.verilog_clock.proofs.Lists.{most-either, size-either, size_at, acts_size}
use Rattle.verilog_clock.proofs.firsts.+counted.Goals as goal

pub most_of-most_updates-requires : goal.most_of-most_updates-requires
most_of-most_updates-requires t c = (omega (arith, c.decreases, size-either _ _ _ _ c.in-If.is, ap acts_size c.deref.ensures.value), tt)

pub most_of-most_updates-requires-in-If : goal.most_of-most_updates-requires-in-If
most_of-most_updates-requires-in-If t c = (omega (arith, c.decreases, size-either _ _ _ _ c.in-If.is, ap acts_size c.deref-in-If.ensures.value), tt)

pub most_updates-most_of-requires : goal.most_updates-most_of-requires
most_updates-most_of-requires t c = (omega (arith, c.decreases, size_at _ _ _ c.each-test.true c.act-item.is), tt)

pub most_of-returns-in_ok-most-in-If : goal.most_of-returns-in_ok-most-in-If
most_of-returns-in_ok-most-in-If t c =
    omega (arith, c.in_ok-most-in-If.ensures, c.in_ok-these-in-If.ensures, c.in_ok-others-in-If.ensures, most-either _ _ _ _ c.in-If.is, ap acts_most c.deref.ensures.value, ap acts_most c.deref-in-If.ensures.value)
