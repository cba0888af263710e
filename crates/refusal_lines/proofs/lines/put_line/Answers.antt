use Rattle.std.proofs.Common.{sym}
use Rattle.lisa_io.proofs.Known.{puts_then, puts_stop, puts_exit}
use Rattle.refusal_lines.specs.LineViews.{fields_of}
use Rattle.refusal_lines.proofs.FieldTexts.{five_fields}
use Rattle.refusal_lines.proofs.lines.put_line.Goals as goal

pub returns-in_err-put_all : goal.returns-in_err-put_all
returns-in_err-put_all g c = puts_exit _ _ c.from_residual.ensures.1 (puts_stop _ c.in_err-put_all.ensures)

pub returns-in_err-put_all-2 : goal.returns-in_err-put_all-2
returns-in_err-put_all-2 g c =
    puts_exit _ _ c.from_residual-in_err-put_all-2.ensures.1 (puts_then c.in_ok-put_all.ensures (puts_stop _ c.in_err-put_all-2.ensures))

pub returns-in_err-put_fields : goal.returns-in_err-put_fields
returns-in_err-put_fields g c =
    puts_exit _ _ c.from_residual-in_err-put_fields.ensures.1
    (puts_then c.in_ok-put_all.ensures (puts_then c.in_ok-put_all-2.ensures (puts_stop _ (rw (sym (five_fields (fields_of c.args.line.now.first) (fields_of c.args.line.now.second) (fields_of c.args.line.now.third) (fields_of c.args.line.now.fourth) (fields_of c.args.line.now.fifth))) at c.in_err-put_fields.ensures))))

pub returns : goal.returns
returns g c =
    puts_then c.in_ok-put_all.ensures (puts_then c.in_ok-put_all-2.ensures (puts_then (rw (sym (five_fields (fields_of c.args.line.now.first) (fields_of c.args.line.now.second) (fields_of c.args.line.now.third) (fields_of c.args.line.now.fourth) (fields_of c.args.line.now.fifth))) at c.in_ok-put_fields.ensures) c.put_all-3.ensures))
