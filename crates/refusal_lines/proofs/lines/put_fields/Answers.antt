use Rattle.lisa_io.proofs.Known.{puts_then, puts_stop, puts_exit}
use Rattle.refusal_lines.proofs.lines.put_fields.Goals as goal

pub returns-in_err-put_field : goal.returns-in_err-put_field
returns-in_err-put_field g c = puts_exit _ _ c.from_residual.ensures.1 (puts_stop _ c.in_err-put_field.ensures)

pub returns-in_err-put_field-2 : goal.returns-in_err-put_field-2
returns-in_err-put_field-2 g c =
    puts_exit _ _ c.from_residual-in_err-put_field-2.ensures.1 (puts_then c.in_ok-put_field.ensures (puts_stop _ c.in_err-put_field-2.ensures))

pub returns : goal.returns
returns g c = puts_then c.in_ok-put_field.ensures (puts_then c.in_ok-put_field-2.ensures c.put_last_fields.ensures)
