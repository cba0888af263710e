use Rattle.std.proofs.Common.{arith}
use Rattle.std.proofs.lemmas.Fmt.{decimal_digit, decimal_step_wide}
use Rattle.lisa_io.proofs.Known.{puts_then, puts_stop, puts_exit}
use Rattle.refusal_lines.proofs.lines.+put_wide.Goals as goal

pub returns-then-value-lt10 : goal.returns-then-value-lt10
returns-then-value-lt10 g t c = rw (decimal_digit c.args.value c.if-value-lt10.true) c.put_all.ensures

pub returns-in_err-put_wide : goal.returns-in_err-put_wide
returns-in_err-put_wide g t c =
    rw (decimal_step_wide c.args.value (omega arith) (omega arith)) (puts_exit _ _ c.from_residual.ensures.1 (puts_stop _ c.in_err-put_wide.ensures))

pub returns : goal.returns
returns g t c = rw (decimal_step_wide c.args.value (omega arith) (omega arith)) (puts_then c.in_ok-put_wide.ensures c.put_all-2.ensures)
