use Rattle.verilog_lexer.proofs.NumberLaws.{too_wide}
use Rattle.verilog_lexer.proofs.numbers.digits_value.Goals as goal

pub returns-in_err-value : goal.returns-in_err-value
returns-in_err-value c =
    rw c.from_residual.ensures (λ fits. too_wide c.args.base c.args.digits.now c.loop-b.value c.loop-b.b-index _ c.requires c.loop-b-test.true c.loop-b.invariant.0 c.in_err-value.ensures fits)
