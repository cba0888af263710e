use Rattle.verilog_clock.proofs.Meanings.{if_ok_so, product_means, repeated_none}
use Rattle.verilog_clock.proofs.compile.repeat.Goals as goal

pub returns-then-width-eq0 : goal.returns-then-width-eq0
returns-then-width-eq0 c values cells below = repeated_none c.args.times c.args.width _ c.if-width-eq0.true below

pub returns : goal.returns
returns c = if_ok_so _ _ _ c.two.ensures (λ code is. product_means c.args.times c.args.width c.of.result.bits c.marks.result c.args.a code c.of.ensures c.marks.ensures is)
