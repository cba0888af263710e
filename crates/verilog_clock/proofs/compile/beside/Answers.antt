use Rattle.verilog_clock.proofs.Meanings.{if_ok_so, beside_means}
use Rattle.verilog_clock.proofs.compile.beside.Goals as goal

pub returns : goal.returns
returns c = if_ok_so _ _ _ c.two-2.ensures (λ code is. beside_means c.args.length.bits c.args.low c.from.result c.args.high c.in_ok-high.high c.args.rest code c.from.ensures c.in_ok-high.ensures is)
